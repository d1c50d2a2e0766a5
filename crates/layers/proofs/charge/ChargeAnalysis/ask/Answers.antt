use Rattle.std.proofs.Common.{◌≡◌, ◌∙◌, arith}
use Rattle.layers.specs.Lemmas.Layered.{charged_answer, uncharged_answer}
use Rattle.layers.proofs.charge.ChargeAnalysis.ask.Goals as goal

pub returns-then-value-eq0 : goal.returns-then-value-eq0
returns-then-value-eq0 g c =
    let z : c.args.self.now.ticks.value ≡ 0 = omega (arith, c.value.ensures.0, c.if-value-eq0.true) in
    c.ask.ensures ∙ uncharged_answer c.args.self.now.ticks.value (g.A.Analysis.verdict c.args.self.now.below) c.args.table.now
    c.args.marks.now c.args.place z

pub returns : goal.returns
returns g c =
    charged_answer c.args.self.now.ticks.value (g.A.Analysis.verdict c.args.self.now.below) c.args.table.now _ c.args.marks.now c.args.place _
    c.in_ok-check_question.ensures.fair (c.as_slice.ensures.value ∙ c.raise_all.ensures) c.ask-2.ensures
