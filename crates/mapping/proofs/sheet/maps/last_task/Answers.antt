use Rattle.mapping.proofs.Planning.{last_line}
use Rattle.mapping.proofs.sheet.maps.last_task.Goals as goal

pub returns-in-Some : goal.returns-in-Some
returns-in-Some c = last_line c.args.lines.now c.in-Some.line.now c.in-Some.ensures.value
