use Rattle.std.proofs.Common.{◌≡◌, ◌≤◌, min, drop}
use Rattle.mapping.specs.Plans.{shortest_divisor}
use Rattle.mapping.proofs.round.tasks.shortest_divisor.Given as goal

-- the shorter of the shortest so far and that of the candidates that are left
abbrev pub invariant-loop-candidate : goal.invariant-loop-candidate
invariant-loop-candidate l =
    (min l.shortest (shortest_divisor l.period (drop l.candidate-index l.found)) ≡ shortest_divisor l.period l.found) × (l.shortest ≤ l.period)
