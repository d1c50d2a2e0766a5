use Rattle.std.proofs.Common.{set, ap, arith}
use Rattle.analysis.specs.Questions.{row_at}
use Rattle.analysis.specs.declared.row.Mark.TheVariants.{Below}
use Rattle.analysis.specs.declared.row.Row.{Row}
use Rattle.analysis.specs.Lemmas.Least.{settled, settled_late, turn}
use Rattle.analysis.specs.Lemmas.Eased.{rises, costs}
use Rattle.analysis.proofs.question.Question.response.Goals as goal

pub loop-w-preserved : goal.loop-w-preserved
loop-w-preserved c =
    let q = c.args.self.now in
    let a = ap (λ (r : Row). r.cost) c.asked-row.ensures in
    turn _ (rises c.args.blocking (row_at q.table.now q.place).cost q.table.now (set q.marks.now q.place Below) (costs q.fair)) c.loop-w.w _
    (omega arith) c.loop-w.invariant.1 c.loop-w.invariant.2

pub returns-then-next-w : goal.returns-then-next-w
returns-then-next-w c =
    let a = ap (λ (r : Row). r.cost) c.asked-row.ensures in
    let d = ap (λ (r : Row). r.deadline) c.asked-row.ensures in
    settled _ _ c.loop-w.w c.loop-w.invariant.2 c.loop-w.invariant.0 (omega arith) (omega arith)

pub returns : goal.returns
returns c =
    let d = ap (λ (r : Row). r.deadline) c.asked-row.ensures in
    settled_late _ _ c.loop-w.w c.loop-w.invariant.2 (omega arith)
