-- The call on the sheet is the call that the line makes.
use Rattle.std.proofs.Common.{Ok, Err, refl}
use Rattle.std.proofs.lemmas.Result.{err_from_is_err_and}
use Rattle.analysis.specs.declared.row.Row.{Row}
use Rattle.mapping.specs.Courses as call
use Rattle.mapping.specs.Faults.{strike_outcome}
use Rattle.reading.specs.Says as says
use Rattle.script.proofs.Obeying.{sheet_obeys}
use Rattle.script.proofs.workspace.Workspace.strike.Goals as goal

pub returns-in_err-strike : goal.returns-in_err-strike
returns-in_err-strike c =
    let p = err_from_is_err_and c.from_residual.result c.from_residual.ensures.1 in
    let h = c.in_err-strike.ensures in
    rw (p.1, p.2)
    (λ ls. sheet_obeys {X = Row} c.args.self.now _ (says.strike c.args.number) (strike_outcome c.args.number) (call.strike c.args.number) (Err c.in_err-strike.field-0.0) ls
    (λ s. refl) (λ s. refl) h.answer h.rows refl)

pub returns : goal.returns
returns c =
    let h = c.in_ok-strike.ensures in
    λ ls. sheet_obeys c.args.self.now _ (says.strike c.args.number) (strike_outcome c.args.number) (call.strike c.args.number) (Ok c.in_ok-strike.field-0) ls
    (λ s. refl) (λ s. refl) h.answer h.rows refl
