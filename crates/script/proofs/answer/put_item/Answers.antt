use Rattle.std.proofs.Common.{[], ◌∷◌, arith}
use Rattle.script.proofs.Puts.{puts_then}
use Rattle.script.proofs.answer.put_item.Goals as goal

pub returns : goal.returns
returns c = puts_then c.args.room.now (44 ∷ []) c.args.place c.put-digits.result c.put-digits.new.room (omega arith) c.put-digits.ensures _ _ _ c.put_number.ensures
