-- A question with a verdict is answered with the least solution.
use Rattle.std.proofs.Common.{sym, ap, ◌∙◌}
use Rattle.analysis.specs.Answers.{judged}
use Rattle.analysis.specs.Responses.{exact}
use Rattle.analysis.proofs.Checks.{as_asked, fair_answer}
use Rattle.analysis.specs.Lemmas.Eased.{response_is}
use Rattle.analysis.proofs.exact.ExactAnalysis.ask.Goals as goal

pub returns : goal.returns
returns c =
    let t = c.args.table.now in
    let m = c.args.marks.now in
    let e = as_asked exact c.response.result c.in_ok-question.ensures.question c.response.ensures in
    record {
      answer = ap judged e ∙ sym (fair_answer exact t m c.args.place c.in_ok-question.ensures.fair);
      least = λ _. response_is 0 t m c.args.place c.response.result e;
    }
