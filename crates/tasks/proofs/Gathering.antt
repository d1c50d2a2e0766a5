-- The rows of some lines, line by line, and of a run as a whole. Assumes nothing.
use Rattle.std.proofs.Common.{◌≡◌, ℕ, ◌+◌, ◌<◌, ◌≤◌, Bool, true, false, not, ◌&&◌, eqb, ltb, List, [], ◌∷◌, ◌++◌, length, get_or, take, drop, Some, None, sym, refl, ap, ◌∙◌, ⊎_elim, arith}
use Rattle.analysis.specs.Ranges.{InRange, kept_cost}
use Rattle.analysis.specs.declared.row.Row.{Row}
use Rattle.mapping.specs.Courses.{Limits}
use Rattle.mapping.specs.Lines.{no_line}
use Rattle.mapping.specs.Sheets.{place_of}
use Rattle.mapping.specs.declared.plan.PlanLine.{PlanLine}
use Rattle.mapping.proofs.Entries.{does_have, has_is, not_has, taken_is, taken_none, taken_within}
use Rattle.std.proofs.ByRecursion.{All-map}
use Rattle.std.proofs.lemmas.List.Elements.{All-from_recursion}
use Rattle.std.proofs.lemmas.List.{at_drop_more, length-drop, length-map, length-take, map_more, nil_from_length}
use Rattle.std.proofs.lemmas.Bool.{and_left, and_parts, cases_lt, eqb-false, eqb-true, ltb-false, ltb-true}
use Rattle.std.specs.List.{All, AllByRecursion, list_all, slice_get}
use Rattle.tasks.specs.Answers.{Answer, found, refused, refused_if}
use Rattle.tasks.specs.Members.{Ranged, members, members_answer, row_of, stands}
use Rattle.tasks.specs.Runs.{run_answer, run_length, run_of, run_start}

-- ---- one line more

module _ (t : List Row) (ls : List PlanLine) (i : ℕ) (h : i < length ls) where
  -- the row that is looked for
  abbrev sought : ℕ
  sought = place_of (get_or ls i no_line).number t

  rest_is : list_all (stands t) (drop i ls) ≡ (stands t (get_or ls i no_line) && list_all (stands t) (drop (i + 1) ls))
  rest_is = at_drop_more (list_all (stands t)) ls i no_line h

  -- it does not stand
  pub one_missing : None ≡ slice_get t sought → list_all (stands t) ls ≡ list_all (stands t) (drop i ls) → list_all (stands t) ls ≡ false
  one_missing e so =
      let no = not_has (get_or ls i no_line).number t (taken_none t sought e) in
      so ∙ rest_is ∙ and_left (stands t (get_or ls i no_line)) (list_all (stands t) (drop (i + 1) ls)) no

  -- it stands
  pub one_stands :
      (r : Row) → Some r ≡ slice_get t sought → list_all (stands t) ls ≡ list_all (stands t) (drop i ls) →
      list_all (stands t) ls ≡ list_all (stands t) (drop (i + 1) ls)
  one_stands r e so =
      let yes = does_have (get_or ls i no_line).number t (taken_within t sought r e) in
      so ∙ rest_is ∙ ap (λ (b : Bool). b && list_all (stands t) (drop (i + 1) ls)) yes

  -- and is put behind the others
  pub one_put :
      (rows : List Row) (r : Row) → Some r ≡ slice_get t sought → rows ≡ members t (take i ls) →
      rows ++ r ∷ [] ≡ members t (take (i + 1) ls)
  one_put rows r e so =
      let is = taken_is t sought r (taken_within t sought r e) e in
      ap (λ (f : List Row). f ++ r ∷ []) so ∙
      ap (λ (x : Row). members t (take i ls) ++ x ∷ []) is ∙ sym (map_more (row_of t) ls i no_line h)

-- ---- the rows of lines that all stand are in their ranges

in_ranges : (t : List Row) → Limits t → (ls : List PlanLine) → list_all (stands t) ls ≡ true → AllByRecursion (λ l. InRange kept_cost (row_of t l)) ls
in_ranges t limits [] e = tt
in_ranges t limits (l ∷ ls) e =
    let p = and_parts (stands t l) (list_all (stands t) ls) e in
    let within = ltb-true (place_of l.number t) (length t) (sym (has_is l.number t) ∙ p.0) in
    (limits.ranges (place_of l.number t) within, in_ranges t limits ls p.1)

pub ranged_members :
    (t : List Row) → Limits t → (ls : List PlanLine) → list_all (stands t) ls ≡ true → 1 ≤ length ls → length ls ≤ 128 → Ranged (members t ls)
ranged_members t limits ls all some few =
    let size : length (members t ls) ≡ length ls = length-map ls (row_of t) in
    record {
      some = omega arith;
      few = omega arith;
      each = All-map (InRange kept_cost) (row_of t) ls (in_ranges t limits ls all);
    }

-- the same by place
pub ranged_each : (ms : List Row) → Ranged ms → All (InRange kept_cost) ms
ranged_each ms r = All-from_recursion (InRange kept_cost) ms r.each

-- ---- the answer for a run

-- a refusal of one kind as one of another
ap_refused : {X Y : Type 0} {a b c d : ℕ} → ◌≡◌ {A = Answer X} (refused a b) (refused c d) → ◌≡◌ {A = Answer Y} (refused a b) (refused c d)
ap_refused {X} {Y} {a} {b} {c} {d} e =
    let f : a ≡ c = cc in
    let g : b ≡ d = cc in
    cc

-- what the answer for the run says, test by test
found_parts :
    (long none : Bool) (part run : List PlanLine) → found part ≡ refused_if long 7 (refused_if none 15 (found run)) →
    (long ≡ false) × (none ≡ false) × (part ≡ run)
found_parts true none part run e = let z : ◌≡◌ {A = ℕ} 0 1 = cc in absurd (omega arith)
found_parts false true part run e = let z : ◌≡◌ {A = ℕ} 0 1 = cc in absurd (omega arith)
found_parts false false part run e = (refl, refl, cc)

-- the same tests with the members
all_found :
    {X : Type 0} (long all none : Bool) (x : X) → long ≡ false → all ≡ true → none ≡ false →
    found x ≡ refused_if long 7 (refused_if (not all) 6 (refused_if none 15 (found x)))
all_found long all none x a b c = rw (a, b, c)

some_missing :
    {X : Type 0} (long all none : Bool) (x : X) → long ≡ false → all ≡ false →
    refused 6 0 ≡ refused_if long 7 (refused_if (not all) 6 (refused_if none 15 (found x)))
some_missing long all none x a b = rw (a, b)

both_refused :
    {X Y : Type 0} (long all none : Bool) (x : X) (y : Y) (code field : ℕ) → (none ≡ true → all ≡ true) →
    refused code field ≡ refused_if long 7 (refused_if none 15 (found x)) →
    refused code field ≡ refused_if long 7 (refused_if (not all) 6 (refused_if none 15 (found y)))
both_refused true all none x y code field h e = ap_refused e
both_refused false all true x y code field h e = rw (h refl) (ap_refused e)
both_refused false all false x y code field h e = let z : ◌≡◌ {A = ℕ} 0 1 = cc in absurd (omega arith)

module _ (t : List Row) (k : ℕ) (ls part : List PlanLine) (e : found part ≡ run_answer k ls) where
  parts : (ltb 128 (length ls) ≡ false) × (eqb (length (run_of k ls)) 0 ≡ false) × (part ≡ run_of k ls)
  parts = found_parts (ltb 128 (length ls)) (eqb (length (run_of k ls)) 0) part (run_of k ls) e

  pub part_few : length part ≤ 128
  part_few =
      let s = run_start k ls in
      let n = run_length k ls in
      omega (arith, ap length parts.2, length-take n (drop s ls), length-drop s ls, ltb-false 128 (length ls) parts.0)

  -- what is tested of the part is tested of the run
  of_run : (b : Bool) → list_all (stands t) part ≡ b → list_all (stands t) (run_of k ls) ≡ b
  of_run b h = ap (list_all (stands t)) (sym parts.2) ∙ h

  pub answer_members : list_all (stands t) part ≡ true → found (members t part) ≡ members_answer t k ls
  answer_members all =
      ap (λ (p : List PlanLine). found (members t p)) parts.2 ∙
      all_found (ltb 128 (length ls)) (list_all (stands t) (run_of k ls)) (eqb (length (run_of k ls)) 0) (members t (run_of k ls)) parts.0 (of_run true all) parts.1

  pub answer_missing : list_all (stands t) part ≡ false → refused 6 0 ≡ members_answer t k ls
  answer_missing some =
      some_missing (ltb 128 (length ls)) (list_all (stands t) (run_of k ls)) (eqb (length (run_of k ls)) 0) (members t (run_of k ls)) parts.0 (of_run false some)

  pub members_ranged : Limits t → list_all (stands t) part ≡ true → Ranged (members t part)
  members_ranged limits all =
      let none = eqb-false (length (run_of k ls)) 0 parts.1 in
      let same = ap length parts.2 in
      let some : 1 ≤ length part = ⊎_elim (λ h. h) (λ h. absurd (none (omega arith))) (cases_lt 0 (length part)) in
      ranged_members t limits part all some part_few

-- a run that is refused is refused with its members
pub answer_refused :
    (t : List Row) (k : ℕ) (ls : List PlanLine) (code field : ℕ) → refused code field ≡ run_answer k ls →
    refused code field ≡ members_answer t k ls
answer_refused t k ls code field e =
    let none : eqb (length (run_of k ls)) 0 ≡ true → list_all (stands t) (run_of k ls) ≡ true = λ h.
    ap (list_all (stands t)) (nil_from_length (run_of k ls) (eqb-true (length (run_of k ls)) 0 h)) in
    both_refused (ltb 128 (length ls)) (list_all (stands t) (run_of k ls)) (eqb (length (run_of k ls)) 0) (run_of k ls) (members t (run_of k ls)) code field none e
