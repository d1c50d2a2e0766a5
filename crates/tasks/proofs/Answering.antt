-- What the answers say of the members, of activation 0 and of a plan. Assumes nothing.
use Rattle.std.proofs.Common.{◌≡◌, ℕ, zero, suc, ◌*◌, ◌%◌, ◌<◌, ◌≤◌, Bool, true, false, cond, not, eqb, ltb, List, [], ◌∷◌, length, IfOk, Ok, Err, Decides, filter, Result, sym, refl, ap, ◌∙◌, subst, ⊎_elim, suc-mul, zero-mul, arith}
use native.Mathlib.Nat.{div_self, mul-mod_left, zero-mod}
use Rattle.analysis.specs.Questions.{Meaning, no_row, row_at}
use Rattle.analysis.specs.declared.row.Row.{Row}
use Rattle.mapping.specs.Courses.{Limits}
use Rattle.mapping.specs.PlanLaw.{Multiple, PlanOf}
use Rattle.mapping.specs.declared.plan.PlanLine.{PlanLine}
use Rattle.mapping.specs.declared.plan.Rule.{Rule}
use Rattle.mapping.specs.declared.plan.Rule.TheVariants.{Equal, Divided}
use Rattle.mapping.proofs.Members.{from_mod, to_mod}
use Rattle.mapping.proofs.Pairs.{every as every_one}
use Rattle.ordered.proofs.Testing.{first_within}
use Rattle.std.proofs.ByRecursion.{All-get_or, All-weaker}
use Rattle.std.proofs.lemmas.List.{length-map}
use Rattle.std.proofs.lemmas.Bool.{cases_lt, eq-eqb, eqb-false, eqb-true, false≢true, le-ltb, lt-ltb, ltb-false}
use Rattle.std.specs.List.{AllByRecursion, list_all}
use Rattle.tasks.specs.Answers.{Answer, answer_of, found, refused, refused_if}
use Rattle.tasks.specs.Members.{Ranged, members, members_answer, row_of, stands}
use Rattle.tasks.specs.Runs.{has_task, run_of, run_start}
use Rattle.tasks.specs.Totals.{CycleOf, LoadOf, Multiples, ShortestOf, answered, cost_answer, cycle_answer, cycle_of, divides, load_answer, load_of, longest_period, shortest_period, summed_cost, totals_answer, totals_of}
use Rattle.tasks.specs.declared.fault.TaskFault.{TaskFault}
use Rattle.tasks.proofs.Extremes.{is_longest, is_shortest}
use Rattle.tasks.proofs.Gathering.{ranged_members}
use Rattle.tasks.proofs.Parts.{run_size, run_within}
use Rattle.tasks.proofs.Summing.{ranged_at}
use Rattle.tasks.proofs.Tasking.{all_divided, divisor, divisor_member, one_period}

-- ---- answers

-- functions that agree on what was found give the same answer
pub answered_same : {X Y : Type 0} (f g : X → Y) (a : Answer X) → ((x : X) → a ≡ found x → f x ≡ g x) → answered f a ≡ answered g a
answered_same f g (found x) h = ap found (h x refl)
answered_same f g (refused code field) h = refl

-- what an answered value came from
answered_from : {X Y : Type 0} (f : X → Y) (a : Answer X) (y : Y) → found y ≡ answered f a → (x : X) × ((a ≡ found x) × (y ≡ f x))
answered_from f (found x) y e = (x, (refl, cc))
answered_from f (refused code field) y e = let z : ◌≡◌ {A = ℕ} 0 1 = cc in absurd (omega arith)

-- the tests of an answer that was found
tests_passed :
    {X : Type 0} (long all none : Bool) (x y : X) → refused_if long 7 (refused_if (not all) 6 (refused_if none 15 (found x))) ≡ found y →
    (long ≡ false) × (all ≡ true) × (none ≡ false) × (x ≡ y)
tests_passed true all none x y e = let z : ◌≡◌ {A = ℕ} 0 1 = cc in absurd (omega arith)
tests_passed false true true x y e = let z : ◌≡◌ {A = ℕ} 0 1 = cc in absurd (omega arith)
tests_passed false true false x y e = (refl, refl, refl, cc)
tests_passed false false none x y e = let z : ◌≡◌ {A = ℕ} 0 1 = cc in absurd (omega arith)

-- ---- members that were had

module _ (t : List Row) (k : ℕ) (ls : List PlanLine) (ms : List Row) (e : members_answer t k ls ≡ found ms) where
  passed :
      (ltb 128 (length ls) ≡ false) × (list_all (stands t) (run_of k ls) ≡ true) × (eqb (length (run_of k ls)) 0 ≡ false) ×
      (members t (run_of k ls) ≡ ms)
  passed = tests_passed (ltb 128 (length ls)) (list_all (stands t) (run_of k ls)) (eqb (length (run_of k ls)) 0) (members t (run_of k ls)) ms e

  some_line : 1 ≤ length (run_of k ls)
  some_line =
      let none = eqb-false (length (run_of k ls)) 0 passed.2 in
      ⊎_elim (λ h. h) (λ h. absurd (none (omega arith))) (cases_lt 0 (length (run_of k ls)))

  begun : run_start k ls < length ls
  begun =
      let within = first_within (has_task k) ls in
      ⊎_elim (λ h. h) (λ h.
      let end = run_within k ls within in
      absurd (omega (arith, run_size k ls within, some_line))) (cases_lt (run_start k ls) (length ls))

  had_ranged : Limits t → Ranged ms
  had_ranged limits =
      let size = run_size k ls (first_within (has_task k) ls) in
      let end = run_within k ls (first_within (has_task k) ls) in
      let few = ltb-false 128 (length ls) passed.0 in
      subst Ranged passed.3 (ranged_members t limits (run_of k ls) passed.1 some_line (omega arith))

  had_some : 1 ≤ length ms
  had_some = subst (λ (rs : List Row). 1 ≤ length rs) passed.3 (omega (arith, length-map (run_of k ls) (row_of t), some_line))

-- ---- load and cycle

kept_step : {X : Type 0} (b : Bool) (x : X) (xs ys : List X) → b ≡ true → ys ≡ xs → cond b (x ∷ ys) ys ≡ x ∷ xs
kept_step true x xs ys e h = ap (λ (zs : List _). x ∷ zs) h
kept_step false x xs ys e h = absurd (false≢true e)

-- a filter that every element passes
kept_all : {X : Type 0} (p : X → Bool) (xs : List X) → AllByRecursion (λ x. p x ≡ true) xs → filter p xs ≡ xs
kept_all p [] h = refl
kept_all p (x ∷ xs) h = kept_step (p x) x xs (filter p xs) h.0 (kept_all p xs h.1)

load_whole : (m : ℕ) (ms : List Row) → AllByRecursion (λ r. (m * shortest_period ms) % r.period ≡ 0) ms → load_of m ms ≡ summed_cost ms
load_whole m ms h =
    ap summed_cost (kept_all (divides (m * shortest_period ms)) ms
    (All-weaker (λ r. (m * shortest_period ms) % r.period ≡ 0) (λ r. divides (m * shortest_period ms) r ≡ true)
    (λ r e. eq-eqb ((m * shortest_period ms) % r.period) 0 e) ms h))

load_zero : (ms : List Row) → load_of 0 ms ≡ summed_cost ms
load_zero ms =
    load_whole 0 ms (every_one (λ r. (0 * shortest_period ms) % r.period ≡ 0)
    (λ r. ap (λ (n : ℕ). n % r.period) (zero-mul (shortest_period ms)) ∙ zero-mod r.period) ms)

module _ (p : ℕ) (ms : List Row) (one : AllByRecursion (λ r. r.period ≡ p) ms) (some : 1 ≤ length ms) where
  shortest_one : shortest_period ms ≡ p
  shortest_one =
      let e = is_shortest (λ r. r.period) ms some in
      sym e.is ∙ All-get_or (λ r. r.period ≡ p) ms e.of no_row e.within one

  longest_one : longest_period ms ≡ p
  longest_one =
      let e = is_longest (λ r. r.period) ms some in
      sym e.is ∙ All-get_or (λ r. r.period ≡ p) ms e.of no_row e.within one

  load_one : (m : ℕ) → load_of m ms ≡ summed_cost ms
  load_one m =
      load_whole m ms (All-weaker (λ r. r.period ≡ p) (λ r. (m * shortest_period ms) % r.period ≡ 0)
      (λ r e. rw (shortest_one, e) (mul-mod_left m p)) ms one)

  cycle_one : 1 ≤ p → cycle_of ms ≡ 1
  cycle_one h = rw (longest_one, shortest_one) (div_self h)

-- ---- the load of every activation

load_step :
    (m : ℕ) (long far : Bool) (a : Answer (List Row)) → far ≡ false → (long ≡ true → a ≡ refused 7 0) →
    answered (load_of m) a ≡ answered summed_cost a → refused_if long 7 (refused_if far 3 (answered (load_of m) a)) ≡ answered summed_cost a
load_step m true far a f h e = sym (ap (answered summed_cost) (h refl))
load_step m false far a f h e = ap (λ (b : Bool). refused_if b 3 (answered (load_of m) a)) f ∙ e

module _ (t : List Row) (k : ℕ) (ls : List PlanLine) (m : ℕ) where
  too_long : ltb 128 (length ls) ≡ true → members_answer t k ls ≡ refused 7 0
  too_long e = rw e

  load_is :
      m ≤ 1000000 → ((ms : List Row) → members_answer t k ls ≡ found ms → load_of m ms ≡ summed_cost ms) → load_answer t k ls m ≡ cost_answer t k ls
  load_is h f =
      load_step m (ltb 128 (length ls)) (ltb 1000000 m) (members_answer t k ls) (le-ltb 1000000 m h) too_long
      (answered_same (load_of m) summed_cost (members_answer t k ls) f)

  pub load_first : m ≡ 0 → load_answer t k ls m ≡ cost_answer t k ls
  load_first e = load_is (omega arith) (λ ms _. rw e (load_zero ms))

  pub load_equal : (v : Meaning) → PlanOf v Equal t ls → m ≤ 1000000 → load_answer t k ls m ≡ cost_answer t k ls
  load_equal v plan h =
      load_is h (λ ms e.
      let p = one_period v t ls plan k (begun t k ls ms e) in
      load_one p.0 ms (subst (AllByRecursion (λ r. r.period ≡ p.0)) (passed t k ls ms e).3 p.1) (had_some t k ls ms e) m)

-- ---- the cycle of a plan of rule equal

pub cycle_equal :
    (t : List Row) (k : ℕ) (ls : List PlanLine) → Limits t → (r : Result ℕ TaskFault) → answer_of (λ x. x) r ≡ cycle_answer t k ls →
    (v : Meaning) → PlanOf v Equal t ls → IfOk r (λ n. n ≡ 1)
cycle_equal t k ls limits (Err x) a v plan = tt
cycle_equal t k ls limits (Ok n) a v plan =
    let f = answered_from cycle_of (members_answer t k ls) n a in
    let ms = f.0 in
    let e = f.1.0 in
    let p = one_period v t ls plan k (begun t k ls ms e) in
    let one = subst (AllByRecursion (λ r. r.period ≡ p.0)) (passed t k ls ms e).3 p.1 in
    let some = had_some t k ls ms e in
    let first = All-get_or (λ r. r.period ≡ p.0) ms 0 no_row some one in
    let range = ranged_at ms 0 (had_ranged t k ls ms e limits) some in
    f.1.1 ∙ cycle_one p.0 ms one some (omega (arith, range.period_least))

-- ---- in words

load_tests :
    {X : Type 0} (long far : Bool) (a : Answer X) (y : X) → found y ≡ refused_if long 7 (refused_if far 3 a) → found y ≡ a
load_tests true far a y e = let z : ◌≡◌ {A = ℕ} 0 1 = cc in absurd (omega arith)
load_tests false true a y e = let z : ◌≡◌ {A = ℕ} 0 1 = cc in absurd (omega arith)
load_tests false false a y e = e

-- the period divides exactly where the number is a multiple of it
divides_says : (n : ℕ) (r : Row) → Decides (divides n r) (Multiple n r.period)
divides_says n r =
    (λ e. from_mod n r.period (eqb-true (n % r.period) 0 e), λ m. eq-eqb (n % r.period) 0 (to_mod n r.period m))

pub load_runs :
    (t : List Row) (k : ℕ) (ls : List PlanLine) (m : ℕ) (r : Result ℕ TaskFault) → answer_of (λ x. x) r ≡ load_answer t k ls m →
    IfOk r (LoadOf m (members t (run_of k ls)))
load_runs t k ls m (Err x) a = tt
load_runs t k ls m (Ok x) a =
    let e = load_tests (ltb 128 (length ls)) (ltb 1000000 m) (answered (load_of m) (members_answer t k ls)) x a in
    let f = answered_from (load_of m) (members_answer t k ls) x e in
    let ms = f.0 in
    let load : LoadOf m ms (load_of m ms) =
    record {
      period = shortest_period ms;
      shortest = is_shortest (λ r. r.period) ms (had_some t k ls ms f.1.0);
      runs = divides (m * shortest_period ms);
      when = every_one (λ r. Decides (divides (m * shortest_period ms) r) (Multiple (m * shortest_period ms) r.period))
          (divides_says (m * shortest_period ms)) ms;
      is = refl;
    } in
    subst (λ (rs : List Row). LoadOf m rs x) (sym (passed t k ls ms f.1.0).3) (subst (LoadOf m ms) (sym f.1.1) load)

pub cycle_periods :
    (t : List Row) (k : ℕ) (ls : List PlanLine) (r : Result ℕ TaskFault) → answer_of (λ x. x) r ≡ cycle_answer t k ls →
    IfOk r (CycleOf (members t (run_of k ls)))
cycle_periods t k ls (Err x) a = tt
cycle_periods t k ls (Ok x) a =
    let f = answered_from cycle_of (members_answer t k ls) x a in
    let ms = f.0 in
    let some = had_some t k ls ms f.1.0 in
    let cycle : CycleOf ms (cycle_of ms) =
    record {
      above = longest_period ms;
      below = shortest_period ms;
      longest = is_longest (λ r. r.period) ms some;
      shortest = is_shortest (λ r. r.period) ms some;
      is = refl;
    } in
    subst (λ (rs : List Row). CycleOf rs x) (sym (passed t k ls ms f.1.0).3) (subst (CycleOf ms) (sym f.1.1) cycle)

pub totals_shortest :
    (t : List Row) (k : ℕ) (ls : List PlanLine) (r : Result (ℕ × ℕ × ℕ) TaskFault) → answer_of (λ x. x) r ≡ totals_answer t k ls →
    IfOk r (ShortestOf (members t (run_of k ls)))
totals_shortest t k ls (Err x) a = tt
totals_shortest t k ls (Ok x) a =
    let f = answered_from totals_of (members_answer t k ls) x a in
    let ms = f.0 in
    let some = had_some t k ls ms f.1.0 in
    let short : ShortestOf ms (totals_of ms) =
    record { period = is_shortest (λ r. r.period) ms some; deadline = is_shortest (λ r. r.deadline) ms some } in
    subst (λ (rs : List Row). ShortestOf rs x) (sym (passed t k ls ms f.1.0).3) (subst (ShortestOf ms) (sym f.1.1) short)

-- a multiple above 0 is not below what it is a multiple of
multiple_least : (p q c : ℕ) → 1 ≤ p → p ≡ c * q → q ≤ p
multiple_least p q zero h e = absurd (omega (arith, zero-mul q))
multiple_least p q (suc c) h e = omega (arith, suc-mul c q)

-- the shortest of periods that are all multiples of one of them is that one
shortest_divisor_is :
    (q : ℕ) (ms : List Row) → Ranged ms → Multiples q ms → (i : ℕ) → i < length ms → (row_at ms i).period ≡ q → shortest_period ms ≡ q
shortest_divisor_is q ms ranged all i h e =
    let s = is_shortest (λ r. r.period) ms ranged.some in
    let up = s.against i h in
    let m = All-get_or (λ r. Multiple r.period q) ms s.of no_row s.within all in
    let down = multiple_least (row_at ms s.of).period q m.0 (ranged_at ms s.of ranged s.within).period_least m.1 in
    omega (arith, s.is)

-- the period of a task divides the period of each member, under either rule
module _ (v : Meaning) (t : List Row) (k : ℕ) (ls : List PlanLine) (limits : Limits t) (ms : List Row) (e : members_answer t k ls ≡ found ms) where
  same_period : PlanOf v Equal t ls → Multiples (shortest_period ms) ms
  same_period plan =
      let p = one_period v t ls plan k (begun t k ls ms e) in
      let one = subst (AllByRecursion (λ r. r.period ≡ p.0)) (passed t k ls ms e).3 p.1 in
      let short = shortest_one p.0 ms one (had_some t k ls ms e) in
      All-weaker (λ r. r.period ≡ p.0) (λ r. Multiple r.period (shortest_period ms)) (λ r x. (1, omega (arith, x, short))) ms one

  divided_period : PlanOf v Divided t ls → Multiples (shortest_period ms) ms
  divided_period plan =
      let h = begun t k ls ms e in
      let q = divisor v t ls plan limits k h in
      let same = (passed t k ls ms e).3 in
      let all = subst (Multiples q) same (all_divided v t ls plan limits k h) in
      let P : List Row → Type 0 = λ rs. (i : ℕ) × ((i < length rs) × ((row_at rs i).period ≡ q)) in
      let member = subst P same (divisor_member v t ls plan limits k h) in
      let short = shortest_divisor_is q ms (had_ranged t k ls ms e limits) all member.0 member.1.0 member.1.1 in
      subst (λ (n : ℕ). Multiples n ms) (sym short) all

  task_divides : (rule : Rule) → PlanOf v rule t ls → Multiples (shortest_period ms) ms
  task_divides Equal plan = same_period plan
  task_divides Divided plan = divided_period plan

pub totals_divide :
    (t : List Row) (k : ℕ) (ls : List PlanLine) → Limits t → (r : Result (ℕ × ℕ × ℕ) TaskFault) → answer_of (λ x. x) r ≡ totals_answer t k ls →
    (v : Meaning) (rule : Rule) → PlanOf v rule t ls → IfOk r (λ x. Multiples x.0 (members t (run_of k ls)))
totals_divide t k ls limits (Err x) a v rule plan = tt
totals_divide t k ls limits (Ok x) a v rule plan =
    let f = answered_from totals_of (members_answer t k ls) x a in
    let ms = f.0 in
    let e = f.1.0 in
    let all = task_divides v t k ls limits ms e rule plan in
    subst (λ (rs : List Row). Multiples x.0 rs) (sym (passed t k ls ms e).3)
    (subst (λ (y : ℕ × ℕ × ℕ). Multiples y.0 ms) (sym f.1.1) all)

-- ---- the tests before the load

pub load_too_long : (t : List Row) (k : ℕ) (ls : List PlanLine) (m : ℕ) → 128 < length ls → refused 7 0 ≡ load_answer t k ls m
load_too_long t k ls m h = rw (lt-ltb 128 (length ls) h)

pub load_passes :
    (t : List Row) (k : ℕ) (ls : List PlanLine) (m : ℕ) → length ls ≤ 128 → m ≤ 1000000 →
    answered (load_of m) (members_answer t k ls) ≡ load_answer t k ls m
load_passes t k ls m few near = sym (rw (le-ltb 128 (length ls) few, le-ltb 1000000 m near))
