use Rattle.std.proofs.Common.{sym, ap, ◌∙◌}
use Rattle.analysis.specs.Answers.{judged}
use Rattle.analysis.specs.Responses.{linear}
use Rattle.analysis.proofs.Checks.{as_asked, fair_answer}
use Rattle.analysis.proofs.linear.LinearAnalysis.ask.Goals as goal

pub returns : goal.returns
returns c =
    ap judged (as_asked linear c.within_deadline.result c.in_ok-question.ensures.question c.within_deadline.ensures)
    ∙ sym (fair_answer linear c.args.table.now c.args.marks.now c.args.place c.in_ok-question.ensures.fair)
