-- A question with a verdict is answered with the least solution.
use Rattle.std.proofs.Common.{sym, ap, ◌∙◌}
use Rattle.analysis.specs.Answers.{judged}
use Rattle.analysis.specs.Responses.{blocking, response, sections}
use Rattle.analysis.proofs.Checks.{as_asked, fair_answer}
use Rattle.analysis.specs.Lemmas.Eased.{response_is}
use Rattle.analysis.proofs.sections.SectionsAnalysis.ask.Goals as goal

pub returns : goal.returns
returns c =
    let t = c.args.table.now in
    let m = c.args.marks.now in
    let i = c.args.place in
    let q = c.in_ok-question.question in
    let e = as_asked sections c.response.result c.in_ok-question.ensures.question
    (c.response.ensures ∙ ap (λ b. response b q.table.now q.marks.now q.place) c.blocking.ensures) in
    record {
      answer = ap judged e ∙ sym (fair_answer sections t m i c.in_ok-question.ensures.fair);
      least = λ _. response_is (blocking t m i) t m i c.response.result e;
    }
