-- Each outcome's text fits the room and is written there.
use Rattle.std.proofs.Common.{◌≡◌, Some, Ok, Option, Result, ap, ◌∙◌, subst, arith}
use Rattle.mapping.specs.declared.plan.Issued.{Issued}
use Rattle.script.specs.Works.{Fitting}
use Rattle.script.specs.declared.fault.Fault.{Fault}
use Rattle.script.proofs.Fits.{outcome_fits, refusal_fits}
use Rattle.script.proofs.answer.write_outcome.Goals as goal

pub write_plan-requires : goal.write_plan-requires
write_plan-requires c =
    let a = c.in-Ok-Some in
    let inner : a.field-0 ≡ Some a.issued = rw a.is at a.field-0-is in
    let f = subst (λ (o : Result (Option Issued) Fault). Fitting o c.args.lines.now) (a.is ∙ ap Ok inner) c.requires.fitting in
    omega (arith, outcome_fits c.args.line a.issued c.args.lines.now c.requires.early f)

pub write_refusal-requires : goal.write_refusal-requires
write_refusal-requires c =
    omega (arith, refusal_fits c.args.line c.field.result c.code.result (omega arith) (omega arith) (omega arith))
