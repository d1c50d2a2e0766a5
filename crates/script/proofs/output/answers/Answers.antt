use Rattle.script.proofs.Betweens.{row_between}
use Rattle.script.proofs.Coursing.{script_law}
use Rattle.script.proofs.output.answers.Goals as goal

pub returns-in-Ok-clause-course : goal.returns-in-Ok-clause-course
returns-in-Ok-clause-course c = script_law c.args.script.now

pub returns-in-Ok-clause-between : goal.returns-in-Ok-clause-between
returns-in-Ok-clause-between c = row_between c.args.script.now

pub returns-in-Err-Refused-clause-course : goal.returns-in-Err-Refused-clause-course
returns-in-Err-Refused-clause-course c = script_law c.args.script.now

pub returns-in-Err-Refused-clause-between : goal.returns-in-Err-Refused-clause-between
returns-in-Err-Refused-clause-between c = row_between c.args.script.now

pub returns-in-Err-Memory-clause-course : goal.returns-in-Err-Memory-clause-course
returns-in-Err-Memory-clause-course c = script_law c.args.script.now

pub returns-in-Err-Memory-clause-between : goal.returns-in-Err-Memory-clause-between
returns-in-Err-Memory-clause-between c = row_between c.args.script.now
