-- The mapping is the one that the line asks for, under the pile with the named analysis.
use Rattle.std.proofs.Common.{Ok, Err, refl, rules}
use Rattle.std.proofs.lemmas.Result.{err_from_is_err_and}
use Rattle.script.proofs.Obeying.{map_obeys}
use Rattle.script.proofs.workspace.Workspace.map.Goals as goal

pub returns-in_err-issued : goal.returns-in_err-issued
returns-in_err-issued c =
    let p = err_from_is_err_and c.from_residual.result c.from_residual.ensures.1 in
    let h = c.in_err-issued.ensures in
    rw (p.1, p.2)
    (map_obeys c.args.self.now _ c.args.choice c.args.rule (Err c.in_err-issued.field-0.0) c.args.self.now.lines c.map.new.room
    (search rules) h.answer h.room h.bounds refl refl refl refl)

pub returns : goal.returns
returns c =
    let h = c.in_ok-issued.ensures in
    map_obeys c.args.self.now _ c.args.choice c.args.rule (Ok c.in_ok-issued.issued) c.args.self.now.lines c.map.new.room
    (search rules) h.answer h.room h.bounds refl refl refl refl
