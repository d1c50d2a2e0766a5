use Rattle.std.proofs.Common.{decimal, arith, length-append}
use Rattle.script.specs.Answers.{items}
use Rattle.script.proofs.Puts.{puts_then}
use Rattle.script.proofs.answer.put_line.Goals as goal

pub put_number-rest-requires : goal.put_number-rest-requires
put_number-rest-requires c =
    let l = c.args.line in
    omega (arith, length-append (decimal l.task) (items l.place l.number l.response))

pub put_items-requires : goal.put_items-requires
put_items-requires c =
    let l = c.args.line in
    omega (arith, length-append (decimal l.task) (items l.place l.number l.response))

pub returns : goal.returns
returns c =
    let l = c.args.line in
    puts_then c.args.room.now (decimal l.task) c.args.place c.put_number-rest.result c.put_number-rest.new.room
    (omega (arith, length-append (decimal l.task) (items l.place l.number l.response))) c.put_number-rest.ensures _ _ _ c.put_items.ensures
