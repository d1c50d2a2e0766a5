-- No fault is a verdict, and a fair question is answered with its verdict.
use Rattle.std.proofs.Common.{◌≡◌, ℕ, ◌∙◌, arith}
use Rattle.analysis.proofs.Checks.{fair_answer}
use Rattle.mapping.proofs.Rounds.{asked_fair}
use Rattle.analysis.specs.Answers.{code_of, judged}
use Rattle.analysis.specs.declared.question.QuestionFault.{QuestionFault}
use Rattle.analysis.specs.declared.question.QuestionFault.TheVariants.{Shape, Range}
use Rattle.analysis.specs.declared.row.Verdict.{Verdict}
use Rattle.mapping.proofs.round.Round.verdict.Goals as goal

no_fault : (e : QuestionFault) (x : Verdict) → code_of e ≡ judged x → ⊥
no_fault Shape x p = let z : ◌≡◌ {A = ℕ} 0 1 = cc in omega arith
no_fault (Range f) x p = let z : ◌≡◌ {A = ℕ} 0 1 = cc in omega arith

pub unreachable-requires : goal.unreachable-requires
unreachable-requires g c =
    let q = c.args.self.now in
    let v = g.A.Analysis.verdict q.analysis.now in
    no_fault c.in-Err.field-0 (v q.rows.now q.marks.now c.args.at)
    (c.in-Err.ensures ∙ fair_answer v q.rows.now q.marks.now c.args.at (asked_fair q.asked c.requires))
