use Rattle.std.proofs.Common.{None, Ok, sym, ◌∙◌, arith}
use Rattle.std.proofs.lemmas.List.{at_drop_all}
use Rattle.analysis.specs.Answers.{first_wrong}
use Rattle.analysis.proofs.Checks.{checked_fair, checked_ranges}
use Rattle.analysis.proofs.question.check_question.Goals as goal

pub returns-clause-fair : goal.returns-clause-fair
returns-clause-fair c =
    let t = c.args.table.now in
    checked_fair t c.args.marks.now c.args.place (Ok tt)
    (checked_ranges t c.args.marks.now c.args.place (omega arith) (omega arith) (omega arith) None
    (sym c.loop-row.invariant ∙ at_drop_all first_wrong t c.loop-row.row-index (omega arith)))
