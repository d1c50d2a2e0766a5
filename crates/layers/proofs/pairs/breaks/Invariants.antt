use Rattle.std.proofs.Common.{◌≡◌, drop, set}
use Rattle.layers.specs.Layers.{pair_broken}
use Rattle.analysis.specs.Questions.{row_at}
use Rattle.analysis.specs.declared.row.Mark.TheVariants.{Below}
use Rattle.layers.proofs.pairs.breaks.Given as goal

-- a pair among those that are left is broken, if any is
abbrev pub invariant-loop-pair : goal.invariant-loop-pair
invariant-loop-pair l =
    pair_broken (drop l.pair-index l.pairs) (row_at l.table l.place).number l.table (set l.marks l.place Below)
    ≡ pair_broken l.pairs (row_at l.table l.place).number l.table (set l.marks l.place Below)
