use Rattle.std.proofs.Common.{◌≡◌, ◌+◌, ◌-◌, ◌≤◌, length}
use Rattle.mapping.specs.Plans.{plan, plan_from, unplaced}
use Rattle.mapping.specs.Rounds.{Asked}
use Rattle.mapping.proofs.Planning.{ahead}
use Rattle.mapping.proofs.round.plans.plan_rows.Given as goal

-- the lines that stand, ahead of the plan of the rows that are left, are the plan
abbrev pub invariant-loop-rule : goal.invariant-loop-rule
invariant-loop-rule g l =
    let v = g.A.Analysis.verdict l.analysis in
    let filled = length l.lines.items in
    Asked l.rows l.marks × (1 ≤ l.task) × (l.task ≤ filled + 1) × (filled + unplaced l.marks ≡ length l.rows) ×
    (ahead l.lines.items (plan_from (length l.rows + 1 - l.task) v l.rule l.rows l.task l.marks) ≡ plan v l.rule l.rows)

abbrev pub decreases-loop-rule : goal.decreases-loop-rule
decreases-loop-rule g l = length l.rows - length l.lines.items
