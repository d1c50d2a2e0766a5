-- The part from the first line of the task on, as long as the lines have it.
use Rattle.std.proofs.Common.{◌≡◌, List, length, sym, ap, ◌∙◌, subst, arith}
use Rattle.mapping.specs.declared.plan.PlanLine.{PlanLine}
use Rattle.tasks.specs.Answers.{found}
use Rattle.tasks.specs.Runs.{RunIs, has_task, run_start}
use Rattle.tasks.proofs.Parts.{answer_absent, answer_found, none_has, part_is, position_found, position_none, run_is}
use Rattle.tasks.proofs.Tasking.{plan_rises, whole}
use Rattle.tasks.proofs.runs.run.Goals as goal

pub returns-in_default : goal.returns-in_default
returns-in_default c =
    let k = c.args.task in
    let ls = c.args.lines.now in
    let e : run_start k ls ≡ length ls = position_none (has_task k) ls (sym c.in_default.is ∙ c.start_of.ensures) in
    record { answer = answer_absent k ls (omega arith) e; part = λ _. none_has k ls e; whole = λ _ _. tt }

pub returns : goal.returns
returns c =
    let k = c.args.task in
    let ls = c.args.lines.now in
    let s = c.in-Some.start in
    let f = position_found (has_task k) ls s (sym c.in-Some.is ∙ c.start_of.ensures) in
    let e = part_is k ls s c.length_of.result f.0 c.length_of.ensures.value in
    let P : List PlanLine → Type 0 = RunIs k ls in
    record { answer = ap (λ (p : List PlanLine). found p) e ∙ answer_found k ls (omega arith) f.1; part = subst P (sym e) (run_is k ls f.1); whole = λ t l. e ∙ whole k ls (plan_rises t ls l) }
