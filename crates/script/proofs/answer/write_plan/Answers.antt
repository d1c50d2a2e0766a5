use Rattle.std.proofs.Common.{◌++◌, codes, arith, length-append}
use Rattle.std.specs.List.{flat_map}
use Rattle.script.specs.Answers.{items, line_text, plan_text}
use Rattle.script.proofs.Puts.{puts_then, writes}
use Rattle.script.proofs.answer.write_plan.Goals as goal

pub put_items-first-requires : goal.put_items-first-requires
put_items-first-requires c =
    let head = codes "plan" ++ items c.args.line c.args.tasks c.args.rows in
    omega (arith, length-append head (flat_map line_text c.args.lines.now), length-append (codes "plan") (items c.args.line c.args.tasks c.args.rows))

pub put_lines-requires : goal.put_lines-requires
put_lines-requires c =
    let head = codes "plan" ++ items c.args.line c.args.tasks c.args.rows in
    omega (arith, length-append head (flat_map line_text c.args.lines.now), length-append (codes "plan") (items c.args.line c.args.tasks c.args.rows))

pub returns : goal.returns
returns c =
    let room = c.args.room.now in
    let head = items c.args.line c.args.tasks c.args.rows in
    let lines = flat_map line_text c.args.lines.now in
    let all = length-append (codes "plan" ++ head) lines in
    let first = puts_then room (codes "plan") 0 c.put-rest.result c.put-rest.new.room (omega arith) c.put-rest.ensures head c.put_items-first.result c.put_items-first.new.room c.put_items-first.ensures in
    writes room (plan_text c.args.line c.args.tasks c.args.rows c.args.lines.now) c.put_lines.result c.put_lines.new.room
    (puts_then room (codes "plan" ++ head) 0 c.put_items-first.result c.put_items-first.new.room (omega arith) first lines _ _ c.put_lines.ensures)
