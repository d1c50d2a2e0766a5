-- The totals of the members.
use Rattle.std.proofs.Common.{◌≡◌, ℕ, Ok, ap, ◌∙◌}
use Rattle.mapping.specs.Rows.{rows_of}
use Rattle.mapping.proofs.Entries.{sheet_limits}
use Rattle.tasks.specs.Answers.{found}
use Rattle.tasks.specs.Totals.{answered, totals_answer, totals_of}
use Rattle.tasks.proofs.Answering.{totals_divide, totals_shortest}
use Rattle.tasks.proofs.questions.totals.Goals as goal

pub returns : goal.returns
returns c =
    let t = rows_of c.args.sheet.now in
    let k = c.args.task in
    let ls = c.args.lines.now in
    let ms = c.in_ok-members.members.rows.items in
    let x : ℕ × ℕ × ℕ = (c.shortest_period.result, c.shortest_deadline.result, c.summed_cost.result) in
    let p = c.shortest_period.ensures.value in
    let d = c.shortest_deadline.ensures in
    let s = c.summed_cost.ensures in
    let is : x ≡ totals_of ms = cc in
    let answer : found x ≡ totals_answer t k ls =
    ap (λ (y : ℕ × ℕ × ℕ). found y) is ∙ ap (answered totals_of) c.in_ok-members.ensures in
    record {
      answer = answer;
      shortest = totals_shortest t k ls (Ok x) answer;
      divides = totals_divide t k ls (sheet_limits c.args.sheet.now) (Ok x) answer;
    }
