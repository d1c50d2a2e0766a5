use Rattle.std.proofs.Common.{◌≡◌, drop, length}
use Rattle.layers.specs.Layers.{above_has}
use Rattle.layers.proofs.pairs.above_has.Given as goal

-- the number is found among the rows that are left, if at all
abbrev pub invariant-loop-row : goal.invariant-loop-row
invariant-loop-row l =
    let k = length l.yielded in
    above_has l.number (drop k l.rows) (drop k l.marks) ≡ above_has l.number l.rows l.marks
