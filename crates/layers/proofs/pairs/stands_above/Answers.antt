use Rattle.std.proofs.Common.{rules}
use Rattle.layers.proofs.Looking.{stands_parts}
use Rattle.layers.proofs.pairs.stands_above.Goals as goal

pub returns-then-above_has : goal.returns-then-above_has
returns-then-above_has c =
    let e = stands_parts c.args.number c.args.table.now c.args.marks.now c.args.place c.requires.marked c.requires.within in
    search rules

pub returns-else-above_has : goal.returns-else-above_has
returns-else-above_has c =
    let e = stands_parts c.args.number c.args.table.now c.args.marks.now c.args.place c.requires.marked c.requires.within in
    search rules
