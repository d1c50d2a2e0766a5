use Rattle.std.proofs.Common.{codes, arith}
use Rattle.script.specs.Answers.{items, refusal_text}
use Rattle.script.proofs.Puts.{puts_then, writes}
use Rattle.script.proofs.answer.write_refusal.Goals as goal

pub returns : goal.returns
returns c =
    writes c.args.room.now (refusal_text c.args.line c.args.field c.args.code) c.put_items.result c.put_items.new.room
    (puts_then c.args.room.now (codes "refused") 0 c.put-rest.result c.put-rest.new.room (omega arith) c.put-rest.ensures (items c.args.line c.args.field c.args.code) _ _ c.put_items.ensures)
