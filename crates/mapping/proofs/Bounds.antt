-- A plan has a line for each row, and small numbers in each line.
use Rattle.std.proofs.Common.{◌≡◌, ℕ, zero, suc, ◌+◌, ◌≤◌, eqb, List, [], ◌∷◌, ◌++◌, length, Some, None, Option, sym, refl, ap, ◌∙◌, subst, inl, inr, arith, length-append}
use Rattle.analysis.specs.Laws.{Lawful}
use Rattle.analysis.specs.Questions.{Fair, Meaning, row_at}
use Rattle.analysis.specs.Ranges.{InRange, kept_cost}
use Rattle.analysis.specs.declared.row.Mark.{Mark}
use Rattle.analysis.specs.declared.row.Row.{Row}
use Rattle.mapping.specs.Courses.{Limits}
use Rattle.mapping.specs.Plans.{all_above, before_rest, candidates, lines_from, members, placed, plan, plan_from, unplaced}
use Rattle.mapping.specs.Replies.{Bounded, Modest}
use Rattle.mapping.specs.declared.plan.PlanLine.{PlanLine}
use Rattle.mapping.specs.declared.plan.Rule.{Rule}
use Rattle.mapping.specs.declared.round.Candidate.{Candidate}
use Rattle.mapping.proofs.Candidates.{Good}
use Rattle.mapping.proofs.Members.{Filled, members_good}
use Rattle.mapping.proofs.Placing.{length_all_above, length_placed, unplaced_all_above}
use Rattle.mapping.proofs.Planned.{Split, none_some, some_same, split}
use Rattle.mapping.proofs.Planning.{left_members}
use Rattle.mapping.proofs.Tables.{wider}
use Rattle.std.proofs.ByRecursion.{All-append, All-weaker}
use Rattle.std.proofs.lemmas.Bool.{cases_Bool, cond-false, cond-true, eqb-true}
use Rattle.std.specs.List.{AllByRecursion}

-- the numbers of a candidate are small
abbrev Small : Candidate → Type 0
Small c = (c.row.number ≤ 65535) × (c.response ≤ 1000000)

length_lines : (task p : ℕ) (cs : List Candidate) → length (lines_from task p cs) ≡ length cs
length_lines task p [] = refl
length_lines task p (c ∷ cs) = ap suc (length_lines task (suc p) cs)

lines_modest : (task p : ℕ) (cs : List Candidate) → task ≤ 128 → p + length cs ≤ 129 → AllByRecursion Small cs → AllByRecursion Modest (lines_from task p cs)
lines_modest task p [] h l s = tt
lines_modest task p (c ∷ cs) h l s = (
  record { task = h; place = omega arith; number = s.0.0; response = s.0.1 },
  lines_modest task (suc p) cs h (omega arith) s.1,
)

some_filled : (cs : List Candidate) → Filled cs → 1 ≤ length cs
some_filled [] f = absurd f
some_filled (c ∷ cs) f = omega arith

-- as many lines as rows are left, each with small numbers
record Rest (m : List Mark) (ls : List PlanLine) : Type 0 where
  count : length ls ≡ unplaced m
  each : AllByRecursion Modest ls

module _ (v : Meaning) (law : Lawful v) (rule : Rule) (t : List Row) (limits : Limits t) where
  small : (m : List Mark) → length m ≡ length t → (c : Candidate) → Good v t m c → Small c
  small m l c g =
      let r : InRange kept_cost (row_at t c.at) = limits.ranges c.at g.within in
      let fair : Fair t m c.at =
      record { few = limits.few; marked = l; within = g.within; ranges = λ k h. wider (row_at t k) (limits.ranges k h) }
      in
      let b = law.bounds t m c.at c.response fair g.verdict in
      let same : (row_at t c.at).number ≡ c.row.number = ap (λ (x : Row). x.number) g.is in
      (omega (arith, r.number_most), omega (arith, b.1, r.deadline_most, r.period_most))

  none_left : (m : List Mark) (ls : List PlanLine) → [] ≡ ls → unplaced m ≡ 0 → Rest m ls
  none_left m ls q e = subst (Rest m) q (record { count = sym e; each = tt })

  -- the lines of the next task before the rest
  next :
      (task : ℕ) (m : List Mark) (ls all : List PlanLine) → length m ≡ length t → 1 ≤ task → task + unplaced m ≤ 129 →
      Filled (members rule (candidates v t m)) → all ≡ lines_from task 1 (members rule (candidates v t m)) ++ ls →
      Rest (placed (members rule (candidates v t m)) m) ls → Rest m all
  next task m ls all l one h f e r =
      let cs : List Candidate = members rule (candidates v t m) in
      let left = left_members v rule t m in
      let some = some_filled cs f in
      let smalls : AllByRecursion Small cs = All-weaker (Good v t m) Small (small m l) cs (members_good v rule t m) in
      let long : length (lines_from task 1 cs ++ ls) ≡ length cs + length ls =
      length-append (lines_from task 1 cs) ls ∙ ap (λ (n : ℕ). n + length ls) (length_lines task 1 cs)
      in
      subst (Rest m) (sym e)
      (record {
        count = long ∙ omega (arith, left, r.count);
        each = All-append Modest (lines_from task 1 cs) ls (lines_modest task 1 cs (omega arith) (omega (arith, left)) smalls) r.each;
      })

  rest_modest :
      (n task : ℕ) (m : List Mark) (ls : List PlanLine) → length m ≡ length t → 1 ≤ task → task + unplaced m ≤ 129 →
      plan_from n v rule t task m ≡ Some ls → Rest m ls
  rest_modest zero task m ls l one h e =
      elim (cases_Bool (eqb (unplaced m) 0)) [
        | inl z ↦ none_left m ls (some_same [] ls (sym (cond-true (eqb (unplaced m) 0) (Some []) None z) ∙ e)) (eqb-true (unplaced m) 0 z)
        | inr z ↦ absurd (none_some ls (sym (cond-false (eqb (unplaced m) 0) (Some []) None z) ∙ e))
      ]
  rest_modest (suc n) task m ls l one h e =
      let cs : List Candidate = members rule (candidates v t m) in
      let rest : Option (List PlanLine) = plan_from n v rule t (suc task) (placed cs m) in
      elim (cases_Bool (eqb (unplaced m) 0)) [
        | inl z ↦ none_left m ls (some_same [] ls (sym (cond-true (eqb (unplaced m) 0) (Some []) (before_rest task cs rest) z) ∙ e)) (eqb-true (unplaced m) 0 z)
        | inr z ↦
            let d : Split task cs rest ls =
            split task cs rest ls (sym (cond-false (eqb (unplaced m) 0) (Some []) (before_rest task cs rest) z) ∙ e)
            in
            let left = left_members v rule t m in
            let some = some_filled cs d.filled in
            next task m d.lines ls l one h d.filled d.whole
            (rest_modest n (suc task) (placed cs m) d.lines (length_placed cs m ∙ l) (omega arith) (omega (arith, left)) d.given)
      ]

  whole : (ls : List PlanLine) → plan v rule t ≡ Some ls → Rest (all_above t) ls
  whole ls e =
      rest_modest (length t) 1 (all_above t) ls (length_all_above t) (omega arith) (omega (arith, unplaced_all_above t, limits.few)) e

  -- a plan has a line for each row
  pub plan_length : (ls : List PlanLine) → plan v rule t ≡ Some ls → length ls ≡ length t
  plan_length ls e = (whole ls e).count ∙ unplaced_all_above t

  -- a plan has at most 128 lines, each with small numbers
  pub plan_bounded : (ls : List PlanLine) → plan v rule t ≡ Some ls → Bounded ls
  plan_bounded ls e = record { few = omega (arith, plan_length ls e, limits.few); each = (whole ls e).each }
