use Rattle.std.proofs.Common.{◌≡◌, ℕ, ◌+◌, ◌-◌, ◌<◌, ◌≤◌}
use Rattle.analysis.specs.Responses.{workload}
use Rattle.analysis.proofs.question.Question.response.Given as goal

-- w is at most the right side at w, and no number below w is a solution
abbrev pub invariant-loop-w : goal.invariant-loop-w
invariant-loop-w l =
    let f : ℕ → ℕ = workload l.blocking l.self.table.now l.self.marks.now l.self.place in
    (1 ≤ l.w) × (l.w ≤ f l.w) × ((u : ℕ) → u < l.w → u ≡ f u → ⊥)

abbrev pub decreases-loop-w : goal.decreases-loop-w
decreases-loop-w l = l.deadline + 1 - l.w
