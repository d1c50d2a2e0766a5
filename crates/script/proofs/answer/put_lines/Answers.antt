use Rattle.std.proofs.Common.{subst, arith}
use Rattle.std.proofs.lemmas.List.{take_all}
use Rattle.std.specs.List.{flat_map}
use Rattle.script.specs.Answers.{Puts, line_text}
use Rattle.script.proofs.Puts.{puts_none, next_fits, next_put}
use Rattle.script.proofs.answer.put_lines.Goals as goal

pub loop-line-init : goal.loop-line-init
loop-line-init c = puts_none c.args.room.now c.args.place

pub put_line-end-requires : goal.put_line-end-requires
put_line-end-requires c =
    omega (arith, next_fits c.args.lines.now c.loop-line.line-index (record { task = 0; place = 0; number = 0; response = 0 }) c.loop-line-test.true c.args.room.now c.args.place c.loop-line.end c.loop-line.room c.requires c.loop-line.invariant)

pub loop-line-preserved : goal.loop-line-preserved
loop-line-preserved c =
    next_put c.args.lines.now c.loop-line.line-index _ c.loop-line-test.true c.args.room.now c.args.place c.loop-line.end c.loop-line.room c.requires c.loop-line.invariant c.put_line-end.result c.put_line-end.new.room c.put_line-end.ensures

pub returns : goal.returns
returns c =
    subst (λ ls. Puts c.args.room.now c.args.place (flat_map line_text ls) c.loop-line.end c.loop-line.room) (take_all c.loop-line.line-index c.args.lines.now c.loop-line-test.false) c.loop-line.invariant
