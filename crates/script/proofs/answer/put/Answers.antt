use Rattle.std.proofs.Common.{refl}
use Rattle.script.proofs.Puts.{put_mid_is}
use Rattle.script.proofs.answer.put.Goals as goal

pub returns : goal.returns
returns c = (refl, put_mid_is c.args.room.now c.args.text.now _ c.args.place c.copy_from_slice.ensures.after)
