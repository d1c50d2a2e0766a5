-- The tasks of a plan: their runs are whole, and how the periods of their members go together. Assumes nothing.
use Rattle.std.proofs.Common.{◌≡◌, ℕ, suc, ◌+◌, ◌-◌, ◌<◌, ◌≤◌, Bool, true, false, cond, eqb, List, [], ◌∷◌, length, get_or, take, drop, filter, sym, refl, ap, ◌∙◌, subst, ⊎_elim, add-zero, arith}
use Rattle.analysis.specs.Questions.{Meaning, no_row, row_at}
use Rattle.analysis.specs.declared.row.Mark.{Mark}
use Rattle.analysis.specs.declared.row.Row.{Row}
use Rattle.mapping.specs.Courses.{Limits}
use Rattle.mapping.specs.Lines.{LinesOf, line_at, line_of, no_line}
use Rattle.mapping.specs.PlanLaw.{Multiple, PlanOf, ShortestDivisor, Takes, marks_at}
use Rattle.mapping.specs.Sheets.{has_number, place_of}
use Rattle.mapping.specs.declared.plan.PlanLine.{PlanLine}
use Rattle.mapping.specs.declared.plan.Rule.{Rule}
use Rattle.mapping.specs.declared.plan.Rule.TheVariants.{Equal, Divided}
use Rattle.mapping.proofs.Entries.{at_place, has_is, none_stands}
use Rattle.mapping.proofs.Lines.{Before, line_in, line_number, lines_ordered, row_of as row_with_line}
use Rattle.mapping.proofs.Members.{shortest_same}
use Rattle.mapping.proofs.Pairs.{Pairs, pairs_at, pairs_weaker}
use Rattle.std.proofs.ByRecursion.{All-from_get_or, All-map, All-weaker}
use Rattle.std.proofs.lemmas.List.{get_or-map, length-map}
use Rattle.std.proofs.lemmas.Bool.{cases_Bool, cases_lt, eqb-true, eqb-false, ltb-true}
use Rattle.std.specs.List.{prefix_len, AllByRecursion}
use Rattle.tasks.specs.Members.{members, row_of}
use Rattle.tasks.specs.Runs.{has_task, run_length, run_of, run_start}
use Rattle.tasks.proofs.Parts.{first_run, run_at, run_size}

-- ---- the run of a task is whole

-- no line's task is below that of a line before it
abbrev Rising : List PlanLine → Type 0
Rising ls = Pairs (λ a b. a.task ≤ b.task) ls

before_rises : (a b : PlanLine) → Before a b → a.task ≤ b.task
before_rises a b h = ⊎_elim (λ l. omega arith) (λ l. omega (arith, l.0)) h

pub plan_rises : (t : List Row) (ls : List PlanLine) → LinesOf t ls → Rising ls
plan_rises t ls h = pairs_weaker Before (λ a b. a.task ≤ b.task) before_rises ls (lines_ordered t ls h)

module _ (k : ℕ) where
  none_step : (b : Bool) (x : PlanLine) (rest : List PlanLine) → k < x.task → eqb x.task k ≡ b → rest ≡ [] → cond b (x ∷ rest) rest ≡ []
  none_step true x rest h e r = absurd (omega (arith, eqb-true x.task k e))
  none_step false x rest h e r = r

  -- nothing is kept of lines of greater tasks
  none_kept : (xs : List PlanLine) → AllByRecursion (λ x. k < x.task) xs → filter (has_task k) xs ≡ []
  none_kept [] h = refl
  none_kept (x ∷ xs) h = none_step (eqb x.task k) x (filter (has_task k) xs) h.0 refl (none_kept xs h.1)

  one_more : (x : PlanLine) (n : ℕ) (xs : List PlanLine) → take (1 + n) (x ∷ xs) ≡ x ∷ take n xs
  one_more x n xs = let e : 1 + n ≡ suc n = omega arith in rw e

  front_step :
      (b : Bool) (x : PlanLine) (xs : List PlanLine) → eqb x.task k ≡ b → k ≤ x.task → AllByRecursion (λ y. x.task ≤ y.task) xs →
      take (prefix_len (has_task k) xs) xs ≡ filter (has_task k) xs →
      take (cond b (1 + prefix_len (has_task k) xs) 0) (x ∷ xs) ≡ cond b (x ∷ filter (has_task k) xs) (filter (has_task k) xs)
  front_step true x xs e l r more = one_more x (prefix_len (has_task k) xs) xs ∙ ap (λ (ys : List PlanLine). x ∷ ys) more
  front_step false x xs e l r more =
      let ne = eqb-false x.task k e in
      let past : k < x.task = ⊎_elim (λ h. h) (λ h. absurd (ne (omega arith))) (cases_lt k x.task) in
      sym (none_kept xs (All-weaker (λ y. x.task ≤ y.task) (λ y. k < y.task) (λ y h. omega arith) xs r))

  -- the leading lines of the task are all of it, where no line has a smaller one
  front_whole : (xs : List PlanLine) → AllByRecursion (λ x. k ≤ x.task) xs → Rising xs → take (prefix_len (has_task k) xs) xs ≡ filter (has_task k) xs
  front_whole [] h r = refl
  front_whole (x ∷ xs) h r = front_step (eqb x.task k) x xs refl h.0 r.0 (front_whole xs h.1 r.1)

  -- the run as the steps over the lines make it
  abbrev run_from : ℕ → List PlanLine → List PlanLine
  run_from s ls = take (prefix_len (has_task k) (drop s ls)) (drop s ls)

  whole_step :
      (b : Bool) (x : PlanLine) (xs : List PlanLine) → eqb x.task k ≡ b → AllByRecursion (λ y. x.task ≤ y.task) xs → Rising xs →
      run_of k xs ≡ filter (has_task k) xs →
      run_from (cond b 0 (suc (run_start k xs))) (x ∷ xs) ≡ cond b (x ∷ filter (has_task k) xs) (filter (has_task k) xs)
  whole_step true x xs e r s more =
      let same = eqb-true x.task k e in
      let front = front_whole xs (All-weaker (λ y. x.task ≤ y.task) (λ y. k ≤ y.task) (λ y h. omega arith) xs r) s in
      ap (λ (b : Bool). take (cond b (1 + prefix_len (has_task k) xs) 0) (x ∷ xs)) e ∙ one_more x (prefix_len (has_task k) xs) xs ∙
      ap (λ (ys : List PlanLine). x ∷ ys) front
  whole_step false x xs e r s more = more

  pub whole : (ls : List PlanLine) → Rising ls → run_of k ls ≡ filter (has_task k) ls
  whole [] r = refl
  whole (x ∷ xs) r = whole_step (eqb x.task k) x xs refl r.0 r.1 (whole xs r.1)

-- ---- the lines of a run, and the members they name

module _ (k : ℕ) (ls : List PlanLine) (h : run_start k ls < length ls) where
  -- what holds of each line of the task holds of the run
  all_run : (P : PlanLine → Type 0) → ((j : ℕ) → j < length ls → (get_or ls j no_line).task ≡ k → P (get_or ls j no_line)) → AllByRecursion P (run_of k ls)
  all_run P f =
      let s = run_start k ls in
      let r = first_run k ls h in
      All-from_get_or P (run_of k ls) no_line (λ j l.
      let within : j < run_length k ls = omega (arith, run_size k ls (omega arith)) in
      subst P (sym (run_at k ls j within)) (f (s + j) (omega (arith, r.within)) (r.unbroken j within)))

  -- the first line of the run has the task
  starts : (get_or ls (run_start k ls) no_line).task ≡ k
  starts = let r = first_run k ls h in rw add-zero at (r.unbroken 0 r.some)

  -- where tasks never fall, each line of the task is in the run
  in_run : Rising ls → (n : ℕ) → n < length ls → (get_or ls n no_line).task ≡ k → (j : ℕ) × ((j < run_length k ls) × (run_start k ls + j ≡ n))
  in_run rises n l e =
      let s = run_start k ls in
      let m = run_length k ls in
      let r = first_run k ls h in
      let not_before : s ≤ n = ⊎_elim (λ b. absurd (r.first n b e)) (λ b. b) (cases_lt n s) in
      let not_after : n < s + m =
      ⊎_elim (λ b. b) (λ (b : s + m ≤ n).
      let some = r.some in
      let up : (get_or ls s no_line).task ≤ (get_or ls (s + m) no_line).task = pairs_at (λ a b. a.task ≤ b.task) ls no_line s (s + m) rises (omega arith) (omega arith) in
      let down : (get_or ls (s + m) no_line).task ≤ k =
      ⊎_elim (λ (c : s + m < n). let d = pairs_at (λ a b. a.task ≤ b.task) ls no_line (s + m) n rises c l in omega arith)
      (λ (c : n ≤ s + m). let same : s + m ≡ n = omega arith in rw same (omega arith)) (cases_lt (s + m) n) in
      absurd (r.longest (omega arith) (omega (arith, starts)))) (cases_lt n (s + m)) in
      (n - s, (omega arith, omega arith))

-- ---- a plan

module _ (v : Meaning) (rule : Rule) (t : List Row) (ls : List PlanLine) (plan : PlanOf v rule t ls) where
  -- the row of a line's number stands at its place
  found_at :
      (j : ℕ) → j < length ls →
      (place_of (get_or ls j no_line).number t < length t) × ((row_at t (place_of (get_or ls j no_line).number t)).number ≡ (get_or ls j no_line).number)
  found_at j h =
      let n = (get_or ls j no_line).number in
      let has : has_number n t ≡ true =
      ⊎_elim (λ e. e) (λ e. absurd (none_stands n t e (plan.lines.no_other j h))) (cases_Bool (has_number n t)) in
      let within = ltb-true (place_of n t) (length t) (sym (has_is n t) ∙ has) in
      (within, at_place n t within)

  -- and its line is that line
  line_back : (j : ℕ) → j < length ls → line_at ls t (place_of (get_or ls j no_line).number t) ≡ get_or ls j no_line
  line_back j h =
      let r = row_with_line t ls plan.lines j h in
      let number : (row_at t r.0).number ≡ (get_or ls j no_line).number =
      sym (line_number t ls plan.lines r.0 r.1.0) ∙ ap (λ (x : PlanLine). x.number) r.1.1 in
      ap (line_of ls) ((found_at j h).1 ∙ sym number) ∙ r.1.1

  -- the rule takes the row of each line of a task
  taken :
      (a : ℕ) (l : a < length ls) (j : ℕ) → j < length ls → (get_or ls j no_line).task ≡ (get_or ls a no_line).task →
      Takes rule v t (marks_at ls t (get_or ls a no_line).task) (row_at t (plan.tasks a l).lead).period (row_of t (get_or ls j no_line)).period
  taken a l j h e =
      (((plan.tasks a l).rows (place_of (get_or ls j no_line).number t) (found_at j h).0).0
      (ap (λ (x : PlanLine). x.task) (line_back j h) ∙ e)).1

-- under rule equal the members of a task have one period
pub one_period :
    (v : Meaning) (t : List Row) (ls : List PlanLine) → PlanOf v Equal t ls → (k : ℕ) → run_start k ls < length ls →
    (p : ℕ) × AllByRecursion (λ r. r.period ≡ p) (members t (run_of k ls))
one_period v t ls plan k h =
    let s = run_start k ls in (
      (row_at t (plan.tasks s h).lead).period,
      All-map (λ r. r.period ≡ (row_at t (plan.tasks s h).lead).period) (row_of t) (run_of k ls)
          (all_run k ls h (λ l. (row_of t l).period ≡ (row_at t (plan.tasks s h).lead).period)
          (λ j l e. taken v Equal t ls plan s h j l (e ∙ sym (starts k ls h)))),
    )

-- under rule divided their periods are multiples of one of them
module _ (v : Meaning) (t : List Row) (ls : List PlanLine) (plan : PlanOf v Divided t ls) (limits : Limits t) (k : ℕ) (h : run_start k ls < length ls) where
  -- the marks at the time of the task, and the lead's period
  abbrev then_marks : List Mark
  then_marks = marks_at ls t (get_or ls (run_start k ls) no_line).task

  abbrev lead_period : ℕ
  lead_period = (row_at t (plan.tasks (run_start k ls) h).lead).period

  goes : (j : ℕ) → j < length ls → (get_or ls j no_line).task ≡ k → Takes Divided v t then_marks lead_period (row_of t (get_or ls j no_line)).period
  goes j l e = taken v Divided t ls plan (run_start k ls) h j l (e ∙ sym (starts k ls h))

  -- the divisor, as the first line has it
  pub divisor : ℕ
  divisor = (goes (run_start k ls) h (starts k ls h)).0

  is_divisor : ShortestDivisor v t then_marks lead_period divisor
  unfolding divisor
  is_divisor = (goes (run_start k ls) h (starts k ls h)).1.0

  divided : (j : ℕ) → j < length ls → (get_or ls j no_line).task ≡ k → Multiple (row_of t (get_or ls j no_line)).period divisor
  divided j l e =
      let g = goes j l e in
      subst (Multiple (row_of t (get_or ls j no_line)).period) (shortest_same v t then_marks lead_period g.0 divisor g.1.0 is_divisor) g.1.1

  pub all_divided : AllByRecursion (λ r. Multiple r.period divisor) (members t (run_of k ls))
  all_divided =
      All-map (λ r. Multiple r.period divisor) (row_of t) (run_of k ls)
      (all_run k ls h (λ l. Multiple (row_of t l).period divisor) divided)

  -- the row whose period it is has a line of the task
  its_line : (n : ℕ) × ((n < length ls) × (get_or ls n no_line ≡ line_at ls t is_divisor.of))
  its_line = line_in t ls plan.lines is_divisor.of is_divisor.candidate.within

  its_task : (get_or ls its_line.0 no_line).task ≡ k
  its_task =
      let of = is_divisor.of in
      let c = is_divisor.candidate in
      let one : Multiple divisor divisor = (1, omega arith) in
      let m : Multiple (row_at t of).period divisor = subst (λ p. Multiple p divisor) (sym is_divisor.period) one in
      let e = ((plan.tasks (run_start k ls) h).rows of c.within).1 (c, (divisor, (is_divisor, m))) in
      ap (λ (x : PlanLine). x.task) its_line.1.1 ∙ e ∙ starts k ls h

  its_period : (row_of t (get_or ls its_line.0 no_line)).period ≡ divisor
  its_period =
      let of = is_divisor.of in
      let l = its_line.1.0 in
      let f = found_at v Divided t ls plan its_line.0 l in
      let number = ap (λ (x : PlanLine). x.number) its_line.1.1 ∙ line_number t ls plan.lines of is_divisor.candidate.within in
      let same = limits.apart (place_of (get_or ls its_line.0 no_line).number t) of f.0 is_divisor.candidate.within (f.1 ∙ number) in
      ap (λ (i : ℕ). (row_at t i).period) same ∙ is_divisor.period

  pub divisor_member : (i : ℕ) × ((i < length (members t (run_of k ls))) × ((row_at (members t (run_of k ls)) i).period ≡ divisor))
  divisor_member =
      let p = in_run k ls h (plan_rises t ls plan.lines) its_line.0 its_line.1.0 its_task in
      let within : p.0 < length (run_of k ls) = omega (arith, run_size k ls (omega arith), p.1.0) in
      let at : row_at (members t (run_of k ls)) p.0 ≡ row_of t (get_or ls its_line.0 no_line) =
      get_or-map (row_of t) (run_of k ls) p.0 no_line no_row within ∙
      ap (row_of t) (run_at k ls p.0 p.1.0 ∙ ap (λ (j : ℕ). get_or ls j no_line) p.1.1) in
      (p.0, (omega (arith, length-map (run_of k ls) (row_of t)), ap (λ (r : Row). r.period) at ∙ its_period))
