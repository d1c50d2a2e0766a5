use Rattle.std.proofs.Common.{length, sym, ap, ◌∙◌, rules}
use Rattle.std.proofs.lemmas.Result.{err_from_is_err_and}
use Rattle.reading.specs.Says.{refusal}
use Rattle.reading.proofs.Checks.{some_fields, other_fields}
use Rattle.reading.proofs.fields.numbers_in.Goals as goal

pub returns-in_err-fields_in-clause-told : goal.returns-in_err-fields_in-clause-told
returns-in_err-fields_in-clause-told c x =
    let p = err_from_is_err_and c.from_residual.result c.from_residual.ensures.1 in
    let told = c.in_err-fields_in.ensures in
    rw p.1 (other_fields c.args.rest (length c.args.fields.now) told.1 _ ∙ sym (ap refusal (p.2 ∙ told.0)))

pub returns-clause-told : goal.returns-clause-told
returns-clause-told c x =
    some_fields c.args.rest (length c.args.fields.now) c.fields_in.new.fields c.in_ok-fields_in.ensures (search rules) x ∙ c.check.ensures x
