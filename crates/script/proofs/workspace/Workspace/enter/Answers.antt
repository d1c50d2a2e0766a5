-- The call on the sheet is the call that the line makes.
use Rattle.std.proofs.Common.{Ok, Err, refl}
use Rattle.std.proofs.lemmas.Result.{err_from_is_err_and}
use Rattle.mapping.specs.Courses as call
use Rattle.mapping.specs.Faults.{enter_outcome}
use Rattle.reading.specs.Says as says
use Rattle.script.proofs.Obeying.{sheet_obeys}
use Rattle.script.proofs.workspace.Workspace.enter.Goals as goal

pub returns-in_err-enter : goal.returns-in_err-enter
returns-in_err-enter c =
    let p = err_from_is_err_and c.from_residual.result c.from_residual.ensures.1 in
    let h = c.in_err-enter.ensures in
    rw (p.1, p.2)
    (λ ls. sheet_obeys {X = Unit {0}} c.args.self.now _ (says.row c.args.row) (enter_outcome c.args.row) (call.entry c.args.row) (Err c.in_err-enter.field-0.0) ls
    (λ s. refl) (λ s. refl) h.answer h.rows refl)

pub returns : goal.returns
returns c =
    let h = c.in_ok-enter.ensures in
    λ ls. sheet_obeys c.args.self.now _ (says.row c.args.row) (enter_outcome c.args.row) (call.entry c.args.row) (Ok c.in_ok-enter.field-0) ls
    (λ s. refl) (λ s. refl) h.answer h.rows refl
