-- What is true of the answer of one mapping.
use Rattle.std.proofs.Common.{◌≡◌, ℕ, ◌<◌, ◌≤◌, Bool, true, false, cond, ltb, ◌↔◌, List, length, Some, None, Option, sym, refl, ap, ◌∙◌, subst, inl, inr, arith}
use Rattle.std.proofs.lemmas.Bool.{cases_lt, cond-false, cond-true, le-ltb, lt-ltb}
use Rattle.analysis.specs.Laws.{Lawful}
use Rattle.analysis.specs.Questions.{Meaning}
use Rattle.analysis.specs.declared.row.Row.{Row}
use Rattle.mapping.specs.Courses.{AnswerLaw, IssuedLaw, Mapped, issued, map_answer, no_room, planned, unschedulable}
use Rattle.mapping.specs.Orders.{Schedulable}
use Rattle.mapping.specs.PlanLaw.{PlanOf}
use Rattle.mapping.specs.Plans.{plan}
use Rattle.mapping.specs.declared.plan.PlanLine.{PlanLine}
use Rattle.mapping.specs.declared.plan.Rule.{Rule}
use Rattle.mapping.proofs.Complete.{Given, plan_given}
use Rattle.mapping.proofs.Exact.{plan_exactly}
use Rattle.mapping.proofs.Keeping.{plan_keeps, plan_schedulable}
use Rattle.mapping.proofs.OnePlan.{one_plan}
use Rattle.mapping.proofs.PlanLaw.{plan_of}
use Rattle.mapping.proofs.Tables.{Sound}

module _ (v : Meaning) (law : Lawful v) (rule : Rule) (t : List Row) (s : Sound t) (room : ℕ) (o : Mapped) (e : o ≡ map_answer v rule room t) where
  -- what an answer says of the plan
  pub is_issued : (ls : List PlanLine) → o ≡ issued ls → plan v rule t ≡ Some ls
  is_issued ls q = go (ltb room (length t)) (plan v rule t) (sym q ∙ e)
    where
      go : (b : Bool) (p : Option (List PlanLine)) → issued ls ≡ cond b no_room (planned p) → p ≡ Some ls
      go true p x = let z : ◌≡◌ {A = ℕ} 0 1 = cc in absurd (omega arith)
      go false None x = let z : ◌≡◌ {A = ℕ} 0 1 = cc in absurd (omega arith)
      go false (Some xs) x = cc

  is_none : o ≡ unschedulable → plan v rule t ≡ None
  is_none q = go (ltb room (length t)) (plan v rule t) (sym q ∙ e)
    where
      go : (b : Bool) (p : Option (List PlanLine)) → unschedulable ≡ cond b no_room (planned p) → p ≡ None
      go true p x = let z : ◌≡◌ {A = ℕ} 0 1 = cc in absurd (omega arith)
      go false None x = refl
      go false (Some xs) x = let z : ◌≡◌ {A = ℕ} 0 1 = cc in absurd (omega arith)

  -- with room the answer is the plan's
  enough : length t ≤ room → o ≡ planned (plan v rule t)
  enough l = e ∙ cond-false (ltb room (length t)) no_room (planned (plan v rule t)) (le-ltb room (length t) l)

  answer_crowded : (o ≡ no_room) ↔ (room < length t)
  answer_crowded = (
    λ q. elim (cases_lt room (length t)) [ inl l ↦ l | inr l ↦ absurd (full (plan v rule t) (sym (enough l) ∙ q)) ],
    λ l. e ∙ cond-true (ltb room (length t)) no_room (planned (plan v rule t)) (lt-ltb room (length t) l),
  )
    where
      full : (p : Option (List PlanLine)) → planned p ≡ no_room → ⊥
      full None x = let z : ◌≡◌ {A = ℕ} 0 1 = cc in omega arith
      full (Some xs) x = let z : ◌≡◌ {A = ℕ} 0 1 = cc in omega arith

  pub issued_schedulable : (ls : List PlanLine) → plan v rule t ≡ Some ls → Schedulable v t
  issued_schedulable ls q = plan_schedulable v law rule t s ls (plan_of v rule t s ls q)

  pub answer_refused : o ≡ unschedulable → Schedulable v t → ⊥
  answer_refused q h = subst Given (is_none q) (plan_given v law rule t s h)

  answer_unordered : length t ≤ room → (o ≡ unschedulable) ↔ (Schedulable v t → ⊥)
  answer_unordered l = (answer_refused, λ none. go none (plan v rule t) refl)
    where
      go : (Schedulable v t → ⊥) → (p : Option (List PlanLine)) → plan v rule t ≡ p → o ≡ unschedulable
      go none None q = enough l ∙ ap planned q
      go none (Some ls) q = absurd (none (issued_schedulable ls q))

  answer_otherwise : length t ≤ room → (o ≡ unschedulable → ⊥) → (ls : List PlanLine) × ((o ≡ issued ls) × Schedulable v t)
  answer_otherwise l ne = go (plan v rule t) refl
    where
      go : (p : Option (List PlanLine)) → plan v rule t ≡ p → (ls : List PlanLine) × ((o ≡ issued ls) × Schedulable v t)
      go None q = absurd (ne (enough l ∙ ap planned q))
      go (Some ls) q = (ls, (enough l ∙ ap planned q, issued_schedulable ls q))

  answer_issues : length t ≤ room → (ls : List PlanLine) → (o ≡ issued ls) ↔ PlanOf v rule t ls
  answer_issues l ls = (
    λ q. plan_of v rule t s ls (is_issued ls q),
    λ p. enough l ∙ ap planned ((plan_exactly v law rule t s ls).1 p),
  )

  answer_plans : (ls : List PlanLine) → o ≡ issued ls → IssuedLaw v rule t ls
  answer_plans ls q =
      let p : PlanOf v rule t ls = plan_of v rule t s ls (is_issued ls q) in
      record {
        by_steps = is_issued ls q;
        by_law = p;
        no_other = λ other x. one_plan v rule t other ls x p;
        keeps = plan_keeps v law rule t s ls p;
      }

  pub answer_law : AnswerLaw v rule room t o
  answer_law =
      record {
        crowded = answer_crowded;
        unordered = answer_unordered;
        otherwise = answer_otherwise;
        issues = answer_issues;
        refused = answer_refused;
        plans = answer_plans;
      }
