-- Where some order has every row on time, there is a plan.
use Rattle.std.proofs.Common.{◌≡◌, ℕ, zero, suc, ◌<◌, ◌≤◌, cond, eqb, List, [], ◌∷◌, length, get_or, Some, None, Option, sym, ◌∙◌, subst, arith}
use Rattle.std.specs.List.{AllByRecursion}
use Rattle.std.proofs.lemmas.Bool.{cond_both, eq-eqb, eqb-false}
use Rattle.analysis.specs.Laws.{Lawful}
use Rattle.analysis.specs.Questions.{Meaning}
use Rattle.analysis.specs.declared.row.Mark.{Mark}
use Rattle.analysis.specs.declared.row.Mark.TheVariants.{Above, Below}
use Rattle.analysis.specs.declared.row.Row.{Row}
use Rattle.mapping.specs.Orders.{Schedulable}
use Rattle.mapping.specs.Plans.{all_above, before_rest, candidates, members, placed, plan, plan_from, unplaced}
use Rattle.mapping.specs.declared.plan.PlanLine.{PlanLine}
use Rattle.mapping.specs.declared.plan.Rule.{Rule}
use Rattle.mapping.specs.declared.round.Candidate.{Candidate}
use Rattle.mapping.specs.PlanLaw.{IsCandidate}
use Rattle.mapping.proofs.Candidates.{Good}
use Rattle.mapping.proofs.Members.{Filled, members_good, some_member}
use Rattle.mapping.proofs.Lowest.{not_stuck}
use Rattle.mapping.proofs.Placing.{length_all_above, length_placed, less_unplaced, own_places, some_free, unplaced_all_above}
use Rattle.mapping.proofs.Tables.{Sound}

abbrev pub Given : Option (List PlanLine) → Type 0
Given (Some ls) = Unit {0}
Given None = ⊥

given_before : (task : ℕ) (cs : List Candidate) (rest : Option (List PlanLine)) → Filled cs → Given rest → Given (before_rest task cs rest)
given_before task [] rest f g = absurd f
given_before task (c ∷ cs) None f g = absurd g
given_before task (c ∷ cs) (Some ls) f g = tt

-- placing members leaves fewer rows
less :
    (v : Meaning) (t : List Row) (m : List Mark) (cs : List Candidate) → Filled cs → AllByRecursion (Good v t m) cs → unplaced (placed cs m) < unplaced m
less v t m [] f h = absurd f
less v t m (c ∷ cs) f h = less_unplaced (c ∷ cs) m c.at (own_places (c ∷ cs)).0 h.0.free

module _ (v : Meaning) (law : Lawful v) (rule : Rule) (t : List Row) (s : Sound t) (h : Schedulable v t) where
  plan_from_given : (n task : ℕ) (m : List Mark) → length m ≡ length t → unplaced m ≤ n → Given (plan_from n v rule t task m)
  plan_from_given zero task m l u =
      subst (λ b. Given (cond b (Some []) None)) (sym (eq-eqb (unplaced m) 0 (omega arith))) tt
  plan_from_given (suc n) task m l u =
      let cs : List Candidate = members rule (candidates v t m) in
      let rest : Option (List PlanLine) = plan_from n v rule t (suc task) (placed cs m) in
      cond_both (eqb (unplaced m) 0) (Some []) (before_rest task cs rest) Given (λ e. tt)
      (λ e.
      let f : (k : ℕ) × ((k < length m) × (get_or m k Below ≡ Above)) = some_free m (eqb-false (unplaced m) 0 e) in
      let low : (x : ℕ) × IsCandidate v t m x = not_stuck v law t m s l h f.0 (omega (arith, f.1.0)) f.1.1 in
      let full : Filled cs = some_member v rule t m low.0 low.1 in
      let lt : unplaced (placed cs m) < unplaced m = less v t m cs full (members_good v rule t m) in
      given_before task cs rest full (plan_from_given n (suc task) (placed cs m) (length_placed cs m ∙ l) (omega arith)))

  pub plan_given : Given (plan v rule t)
  plan_given = plan_from_given (length t) 1 (all_above t) (length_all_above t) (omega (arith, unplaced_all_above t))
