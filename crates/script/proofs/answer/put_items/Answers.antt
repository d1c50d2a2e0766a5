use Rattle.std.proofs.Common.{[], ◌∷◌, ◌++◌, arith, length-append}
use Rattle.script.specs.Answers.{item}
use Rattle.script.proofs.Puts.{puts_then}
use Rattle.script.proofs.answer.put_items.Goals as goal

pub put_item-second-requires : goal.put_item-second-requires
put_item-second-requires c = omega (arith, simp length-append at c.requires)

pub put_item-third-requires : goal.put_item-third-requires
put_item-third-requires c = omega (arith, simp length-append at c.requires)

pub put_item-end-requires : goal.put_item-end-requires
put_item-end-requires c = omega (arith, simp length-append at c.requires)

pub put-requires : goal.put-requires
put-requires c = omega (arith, simp length-append at c.requires)

pub returns : goal.returns
returns c =
    let room = c.args.room.now in
    let p = c.args.place in
    let a = item c.args.a in
    let b = item c.args.b in
    let d = item c.args.c in
    let fits = simp length-append at c.requires in
    let two = puts_then room a p c.put_item-second.result c.put_item-second.new.room (omega arith) c.put_item-second.ensures b _ _ c.put_item-third.ensures in
    let three = puts_then room (a ++ b) p c.put_item-third.result c.put_item-third.new.room (simp length-append (omega arith)) two d _ _ c.put_item-end.ensures in
    puts_then room (a ++ b ++ d) p c.put_item-end.result c.put_item-end.new.room (simp length-append (omega arith)) three (10 ∷ []) _ _ c.put.ensures
