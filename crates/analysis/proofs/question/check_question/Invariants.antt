use Rattle.std.proofs.Common.{◌≡◌, drop}
use Rattle.analysis.specs.Answers.{first_wrong}
use Rattle.analysis.proofs.question.check_question.Given as goal

-- the rows that are left have the same first wrong field
abbrev pub invariant-loop-row : goal.invariant-loop-row
invariant-loop-row l = first_wrong (drop l.row-index l.table) ≡ first_wrong l.table
