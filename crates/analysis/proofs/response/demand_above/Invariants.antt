use Rattle.std.proofs.Common.{◌≡◌, ◌+◌, ◌*◌, ◌≤◌, drop, length}
use Rattle.analysis.specs.Responses.{demand_above}
use Rattle.analysis.proofs.response.demand_above.Given as goal

-- the total with what the rows that are left ask
abbrev pub invariant-loop-row : goal.invariant-loop-row
invariant-loop-row l =
    let n = length l.yielded in
    (l.total + demand_above (drop n l.rows) (drop n l.marks) l.window ≡ demand_above l.rows l.marks l.window)
    × (l.total ≤ n * 1000001000000)
