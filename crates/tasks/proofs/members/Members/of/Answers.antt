-- The run is refused, or its members are had, or one of them does not stand.
use Rattle.std.proofs.Common.{List, sym, ap, ◌∙◌, subst}
use Rattle.analysis.specs.declared.row.Row.{Row}
use Rattle.mapping.specs.Rows.{rows_of}
use Rattle.mapping.proofs.Entries.{sheet_limits}
use Rattle.std.proofs.lemmas.Result.{err_from_is_err_and}
use Rattle.tasks.specs.Answers.{found}
use Rattle.tasks.specs.Members.{Ranged}
use Rattle.tasks.proofs.Gathering.{answer_members, answer_missing, answer_refused, members_ranged, ranged_each}
use Rattle.tasks.proofs.members.Members.of.Goals as goal

pub returns-in_err-run : goal.returns-in_err-run
returns-in_err-run c =
    let p = err_from_is_err_and c.from_residual.result c.from_residual.ensures.1 in
    rw (p.1, p.2) (answer_refused (rows_of c.args.sheet.now) c.args.task c.args.lines.now _ _ c.in_err-run.ensures.answer)

pub returns-in_err-rows : goal.returns-in_err-rows
returns-in_err-rows c =
    let p = err_from_is_err_and c.from_residual-in_err-rows.result c.from_residual-in_err-rows.ensures.1 in
    let h = c.in_err-rows.ensures in
    rw (p.1, p.2, h.0) (answer_missing (rows_of c.args.sheet.now) c.args.task c.args.lines.now c.in_ok-run.field-0.now c.in_ok-run.ensures.answer h.1)

pub invariant_of-result : goal.invariant_of-result
invariant_of-result c =
    let h = c.in_ok-rows.ensures in
    let r = subst Ranged (sym h.0) (members_ranged (rows_of c.args.sheet.now) c.args.task c.args.lines.now c.in_ok-run.field-0.now
    c.in_ok-run.ensures.answer (sheet_limits c.args.sheet.now) h.1) in
    record { some = r.some; each = ranged_each c.in_ok-rows.rows.items r }

pub returns : goal.returns
returns c =
    let h = c.in_ok-rows.ensures in
    ap (λ (ms : List Row). found ms) h.0
    ∙ answer_members (rows_of c.args.sheet.now) c.args.task c.args.lines.now c.in_ok-run.field-0.now c.in_ok-run.ensures.answer h.1
