-- The cost of the members whose period divides the time of the activation.
use Rattle.std.proofs.Common.{◌≡◌, ℕ, ◌*◌, Ok, ap, ◌∙◌, arith}
use Rattle.mapping.specs.Rows.{rows_of}
use Rattle.tasks.specs.Answers.{found, refused}
use Rattle.tasks.specs.Totals.{answered, cost_at, load_answer, load_of}
use Rattle.tasks.proofs.Answering.{load_equal, load_first, load_passes, load_runs, load_too_long}
use Rattle.tasks.proofs.questions.load.Goals as goal

pub returns-then-lines-gt-MOST_LINES : goal.returns-then-lines-gt-MOST_LINES
returns-then-lines-gt-MOST_LINES c =
    let t = rows_of c.args.sheet.now in
    let k = c.args.task in
    let ls = c.args.lines.now in
    let m = c.args.activation in
    let answer : refused 7 0 ≡ load_answer t k ls m = load_too_long t k ls m (omega arith) in
    record { answer = answer; running = tt; first = λ e. answer ∙ load_first t k ls m e; equal = λ v plan h. answer ∙ load_equal t k ls m v plan h }

pub returns : goal.returns
returns c =
    let t = rows_of c.args.sheet.now in
    let k = c.args.task in
    let ls = c.args.lines.now in
    let n = c.args.activation in
    let ms = c.in_ok-members.members.rows.items in
    let x = c.cost_at.result in
    let is : x ≡ load_of n ms = c.cost_at.ensures ∙ ap (λ (p : ℕ). cost_at (n * p) ms) c.shortest_period-shortest.ensures.value in
    let answer : found x ≡ load_answer t k ls n =
    ap (λ (z : ℕ). found z) is ∙ ap (answered (load_of n)) c.in_ok-members.ensures ∙
    load_passes t k ls n (omega arith) (omega arith) in
    record { answer = answer; running = load_runs t k ls n (Ok x) answer; first = λ e. answer ∙ load_first t k ls n e; equal = λ v plan h. answer ∙ load_equal t k ls n v plan h }
