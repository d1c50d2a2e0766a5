use Rattle.std.proofs.Common.{eqb, ap, ◌∙◌}
use Rattle.std.specs.List.{position}
use Rattle.mapping.specs.Rows.{rows_of}
use Rattle.mapping.proofs.Entries.{found_place}
use Rattle.mapping.proofs.sheet.Sheet.place_of.Goals as goal

pub returns : goal.returns
returns c =
    found_place c.args.number (rows_of c.args.self.now) c.position.result
    (c.position.ensures ∙ ap (position (λ s. eqb s.number c.args.number)) c.as_slice.ensures.value)
