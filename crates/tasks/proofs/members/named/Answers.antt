-- Each line's row stands and is put behind the others, or the first that does not stand decides.
use Rattle.std.proofs.Common.{refl, sym, ◌∙◌}
use Rattle.mapping.specs.Rows.{rows_of}
use Rattle.tasks.proofs.Gathering.{one_missing, one_put, one_stands}
use Rattle.tasks.proofs.members.named.Goals as goal

pub returns-in_default : goal.returns-in_default
returns-in_default c =
    (refl, one_missing (rows_of c.args.sheet.now) c.args.lines.now c.loop-line.line-index c.loop-line-test.true (sym c.in_default.is ∙ c.find.ensures.value) c.loop-line.invariant.1)

pub loop-line-preserved : goal.loop-line-preserved
loop-line-preserved c =
    let t = rows_of c.args.sheet.now in
    let ls = c.args.lines.now in
    let i = c.loop-line.line-index in
    let h = c.loop-line-test.true in
    let e = c.in-Some.ensures.value in (
      c.push.ensures.items ∙ one_put t ls i h c.loop-line.rows.items c.in-Some.row e c.loop-line.invariant.0,
      one_stands t ls i h c.in-Some.row e c.loop-line.invariant.1,
    )
