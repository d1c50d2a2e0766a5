-- Late where a pair is broken, else what is said below.
use Rattle.std.proofs.Common.{◌≡◌, true, false, List, set, sym, refl, ap, ◌∙◌}
use Rattle.std.proofs.lemmas.Bool.{both_ways, cond-false, cond-true}
use Rattle.analysis.specs.Answers.{judged}
use Rattle.analysis.specs.Questions.{row_at}
use Rattle.analysis.specs.declared.row.Mark.TheVariants.{Below}
use Rattle.analysis.specs.declared.row.Verdict.TheVariants.{Late}
use Rattle.analysis.proofs.Checks.{fair_answer}
use Rattle.layers.specs.Layers.{pair_broken, with_pairs}
use Rattle.layers.specs.Lists.{pairs_of}
use Rattle.layers.specs.declared.pair.Pair.{Pair}
use Rattle.layers.proofs.Breaking.{breaks_broken, broken_breaks}
use Rattle.layers.specs.Lemmas.Layered.{same_answer}
use Rattle.layers.proofs.pairs.PairsAnalysis.ask.Goals as goal

pub returns-then-breaks : goal.returns-then-breaks
returns-then-breaks g c =
    let v = g.A.Analysis.verdict c.args.self.now.below in
    let ps = pairs_of c.args.self.now.pairs in
    let t = c.args.table.now in
    let m = c.args.marks.now in
    let i = c.args.place in
    let q = c.in_ok-check_question.ensures.fair in
    let b : pair_broken ps (row_at t i).number t (set m i Below) ≡ true =
    ap (λ (l : List Pair). pair_broken l (row_at t i).number t (set m i Below)) (sym c.as_slice.ensures) ∙ sym c.if-breaks.ensures in
    record {
      answer =
          sym (fair_answer (with_pairs ps v) t m i q ∙ ap judged (cond-true (pair_broken ps (row_at t i).number t (set m i Below)) Late (v t m i) b));
      late = λ _ _. refl;
      passed = λ _ no. absurd (no (broken_breaks ps t m i q b));
    }

pub returns : goal.returns
returns g c =
    let v = g.A.Analysis.verdict c.args.self.now.below in
    let ps = pairs_of c.args.self.now.pairs in
    let t = c.args.table.now in
    let m = c.args.marks.now in
    let i = c.args.place in
    let b : pair_broken ps (row_at t i).number t (set m i Below) ≡ false =
    ap (λ (l : List Pair). pair_broken l (row_at t i).number t (set m i Below)) (sym c.as_slice.ensures) ∙ sym c.if-breaks.ensures in
    record {
      answer =
          c.ask.ensures
          ∙ same_answer v (with_pairs ps v) t m i (λ _. sym (cond-false (pair_broken ps (row_at t i).number t (set m i Below)) Late (v t m i) b));
      late = λ _ k. absurd (both_ways (pair_broken ps (row_at t i).number t (set m i Below)) b (breaks_broken ps t m i k));
      passed = λ q _. c.ask.ensures ∙ fair_answer v t m i q;
    }
