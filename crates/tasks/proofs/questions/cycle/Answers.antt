-- The longest period by the shortest, from the members.
use Rattle.std.proofs.Common.{◌≡◌, ℕ, ◌/◌, Ok, ap, ◌∙◌}
use Rattle.mapping.specs.Rows.{rows_of}
use Rattle.mapping.proofs.Entries.{sheet_limits}
use Rattle.tasks.specs.Answers.{found}
use Rattle.tasks.specs.Totals.{answered, cycle_answer, cycle_of}
use Rattle.tasks.proofs.Answering.{cycle_equal, cycle_periods}
use Rattle.tasks.proofs.questions.cycle.Goals as goal

pub returns : goal.returns
returns c =
    let t = rows_of c.args.sheet.now in
    let k = c.args.task in
    let ls = c.args.lines.now in
    let ms = c.in_ok-members.members.rows.items in
    let x = c.longest_period.result in
    let y = c.shortest_period.result in
    let a = c.longest_period.ensures in
    let b = c.shortest_period.ensures.value in
    let is : x / y ≡ cycle_of ms = cc in
    let answer : found (x / y) ≡ cycle_answer t k ls = ap (λ (n : ℕ). found n) is ∙ ap (answered cycle_of) c.in_ok-members.ensures in
    record { answer = answer; periods = cycle_periods t k ls (Ok (x / y)) answer; equal = cycle_equal t k ls (sheet_limits c.args.sheet.now) (Ok (x / y)) answer }
