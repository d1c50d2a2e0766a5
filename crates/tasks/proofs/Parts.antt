-- The first run of a task as a part of the lines. Assumes nothing.
use Rattle.std.proofs.Common.{◌≡◌, ℕ, suc, ◌+◌, ◌-◌, ◌<◌, ◌≤◌, Bool, true, false, cond, not, ltb, Some, None, List, [], ◌∷◌, length, get_or, take, drop, sym, refl, ap, ◌∙◌, subst, ⊎_elim, add-zero, arith}
use native.Mathlib.Nat.{sub-zero}
use Rattle.mapping.specs.Lines.{no_line}
use Rattle.mapping.specs.declared.plan.PlanLine.{PlanLine}
use Rattle.ordered.specs.Tests.{first_place}
use Rattle.std.proofs.ByRecursion.{All-from_get_or}
use Rattle.std.proofs.lemmas.List.{get_or-drop, get_or-take, length-drop, length-take-le, take_rest}
use Rattle.std.proofs.lemmas.List.Sums.{fails_before_first, passes_at_first, prefix_len-drop_yes, prefix_len-le-length, prefix_len_passes, prefix_len_stops}
use Rattle.std.proofs.lemmas.Bool.{cases_order, eq-eqb, eqb-false, eqb-true, le-ltb, ltb-false, ltb-true, ne_eqb}
use Rattle.std.specs.List.{position, position_or_len, prefix_len, AllByRecursion}
use Rattle.tasks.specs.Answers.{found, refused}
use Rattle.tasks.specs.Runs.{FirstRun, NoLine, RunIs, has_task, run_answer, run_length, run_of, run_start}

-- ---- the first place

module _ {X : Type 0} (test : X → Bool) where
  first_is_step : (b : Bool) (p n : ℕ) → p ≡ n → cond b 0 (suc p) ≡ cond (not b) (1 + n) 0
  first_is_step true p n e = refl
  first_is_step false p n e = omega arith

  -- the first place as the library has it
  pub first_is : (xs : List X) → first_place test xs ≡ position_or_len test xs
  first_is [] = refl
  first_is (y ∷ ys) = first_is_step (test y) (first_place test ys) (position_or_len test ys) (first_is ys)

  found_step : (b : Bool) (p s : ℕ) → cond b (Some p) None ≡ Some s → (b ≡ true) × (s ≡ p)
  found_step true p s e = (refl, cc)
  found_step false p s e = cc

  none_step : (b : Bool) (p : ℕ) → cond b (Some p) None ≡ None → b ≡ false
  none_step true p e = cc
  none_step false p e = refl

  pub position_found : (xs : List X) (s : ℕ) → Some s ≡ position test xs → (s ≡ first_place test xs) × (first_place test xs < length xs)
  position_found xs s e =
      let h = found_step (ltb (position_or_len test xs) (length xs)) (position_or_len test xs) s (sym e) in
      let l = ltb-true (position_or_len test xs) (length xs) h.0 in
      (h.1 ∙ sym (first_is xs), omega (arith, first_is xs))

  pub position_none : (xs : List X) → None ≡ position test xs → first_place test xs ≡ length xs
  position_none xs e =
      let h = none_step (ltb (position_or_len test xs) (length xs)) (position_or_len test xs) (sym e) in
      let l = ltb-false (position_or_len test xs) (length xs) h in
      omega (arith, first_is xs, prefix_len-le-length (λ x. not (test x)) xs)

-- ---- the run

module _ (k : ℕ) (ls : List PlanLine) where
  pub run_within : run_start k ls ≤ length ls → run_start k ls + run_length k ls ≤ length ls
  run_within h = let l = prefix_len-le-length (has_task k) (drop (run_start k ls) ls) in omega (arith, length-drop (run_start k ls) ls)

  run_has : run_start k ls < length ls → 1 ≤ run_length k ls
  run_has h =
      let s = first_is (has_task k) ls in
      let l = prefix_len-drop_yes (has_task k) ls (run_start k ls) no_line h (rw (s) (passes_at_first (has_task k) ls no_line (omega arith))) in
      omega arith

  pub first_run : run_start k ls < length ls → FirstRun k ls (run_start k ls) (run_length k ls)
  first_run h =
      let s = run_start k ls in
      record {
        within = run_within (omega arith);
        some = run_has h;
        unbroken = λ j l.
            let e = prefix_len_passes (has_task k) (drop s ls) j no_line l in
            rw get_or-drop at (eqb-true (get_or (drop s ls) j no_line).task k e);
        first = λ j l. eqb-false (get_or ls j no_line).task k (fails_before_first (has_task k) ls j no_line (omega (arith, first_is (has_task k) ls)));
        longest = λ l.
            let more : prefix_len (has_task k) (drop s ls) < length (drop s ls) = simp length-drop (omega arith) in
            let e = prefix_len_stops (has_task k) (drop s ls) no_line more in
            rw get_or-drop at (eqb-false (get_or (drop s ls) (run_length k ls) no_line).task k e);
      }

  -- no line has the task where none was found
  pub none_has : run_start k ls ≡ length ls → NoLine k ls
  none_has e =
      All-from_get_or (λ l. l.task ≡ k → ⊥) ls no_line
      (λ j l. eqb-false (get_or ls j no_line).task k (fails_before_first (has_task k) ls j no_line (omega (arith, first_is (has_task k) ls))))

-- ---- one run

-- a first run does not begin before another
not_before : (k : ℕ) (ls : List PlanLine) (i n j m : ℕ) → FirstRun k ls i n → FirstRun k ls j m → i < j → ⊥
not_before k ls i n j m a b h = b.first i h (rw add-zero at (a.unbroken 0 a.some))

-- nor does it end before another
not_shorter : (k : ℕ) (ls : List PlanLine) (i n j m : ℕ) → FirstRun k ls i n → FirstRun k ls j m → i ≡ j → n < m → ⊥
not_shorter k ls i n j m a b e h =
    let same : (get_or ls (i + n) no_line).task ≡ k = rw e (b.unbroken n h) in
    a.longest (omega (arith, b.within)) same

one_start : (k : ℕ) (ls : List PlanLine) (i n j m : ℕ) → FirstRun k ls i n → FirstRun k ls j m → i ≡ j
one_start k ls i n j m a b =
    ⊎_elim (λ e. e) (λ o. absurd (⊎_elim (not_before k ls i n j m a b) (not_before k ls j m i n b a) o)) (cases_order i j)

-- there is one first run at most
one_run : (k : ℕ) (ls : List PlanLine) (i n j m : ℕ) → FirstRun k ls i n → FirstRun k ls j m → (i ≡ j) × (n ≡ m)
one_run k ls i n j m a b =
    let e = one_start k ls i n j m a b in (
      e,
      ⊎_elim (λ f. f) (λ o. absurd (⊎_elim (not_shorter k ls i n j m a b e) (not_shorter k ls j m i n b a (sym e)) o)) (cases_order n m),
    )

-- ---- the part that is handed out

module _ (k : ℕ) (ls : List PlanLine) where
  pub run_size : run_start k ls ≤ length ls → length (run_of k ls) ≡ run_length k ls
  run_size h =
      length-take-le (run_length k ls) (drop (run_start k ls) ls) (simp length-drop (omega (arith, run_within k ls h)))

  -- a line of the run among the lines
  pub run_at : (j : ℕ) → j < run_length k ls → get_or (run_of k ls) j no_line ≡ get_or ls (run_start k ls + j) no_line
  run_at j h = get_or-take (run_length k ls) (drop (run_start k ls) ls) j no_line h ∙ get_or-drop (run_start k ls) ls j no_line

  run_each : run_start k ls < length ls → AllByRecursion (λ l. l.task ≡ k) (run_of k ls)
  run_each h =
      All-from_get_or (λ l. l.task ≡ k) (run_of k ls) no_line (λ j l.
      let within : j < run_length k ls = omega (arith, run_size (omega arith)) in
      ap (λ (x : PlanLine). x.task) (run_at j within) ∙ (first_run k ls h).unbroken j within)

  pub run_is : run_start k ls < length ls → RunIs k ls (run_of k ls)
  run_is h =
      let z : run_length k ls ≡ length (run_of k ls) = sym (run_size (omega arith)) in
      let P : ℕ → Type 0 = λ n. FirstRun k ls (run_start k ls) n in
      let r = subst P z (first_run k ls h) in
      record {
        begins = run_start k ls;
        is = ap (λ (n : ℕ). take n (drop (run_start k ls) ls)) z;
        first_run = r;
        no_other = λ i n o. one_run k ls i n (run_start k ls) (length (run_of k ls)) o r;
        each = run_each h;
      }

  -- the answer where a line has the task, and where none has
  pub answer_found : length ls ≤ 128 → run_start k ls < length ls → found (run_of k ls) ≡ run_answer k ls
  answer_found few h =
      let size = run_size (omega arith) in
      let some = run_has k ls h in
      rw (le-ltb 128 (length ls) few, ne_eqb (length (run_of k ls)) 0 (λ e. omega arith))

  pub answer_absent : length ls ≤ 128 → run_start k ls ≡ length ls → refused 15 0 ≡ run_answer k ls
  answer_absent few e =
      let size = run_size (omega arith) in
      let within = run_within k ls (omega arith) in
      rw (le-ltb 128 (length ls) few, eq-eqb (length (run_of k ls)) 0 (omega arith))

-- the part of the lines from s on, and of that the first n, as slices have it
pub part_is :
    (k : ℕ) (ls : List PlanLine) (s n : ℕ) → s ≡ run_start k ls → n ≡ prefix_len (has_task k) (take (length ls - s) (drop s ls)) →
    take (n - 0) (take (length ls - s) (drop s ls)) ≡ run_of k ls
part_is k ls s n e f =
    let f' : n ≡ prefix_len (has_task k) (drop s ls) = f ∙ ap (prefix_len (has_task k)) (take_rest ls s) in
    rw (sub-zero, take_rest, f', e)
