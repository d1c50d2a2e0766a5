-- The row at the number's place, where the number has one.
use Rattle.std.proofs.Common.{◌≡◌, ℕ, List, Some, sym, ap, ◌∙◌, arith}
use Rattle.analysis.specs.Questions.{no_row, row_at}
use Rattle.analysis.specs.declared.row.Row.{Row}
use Rattle.mapping.specs.Rows.{rows_of}
use Rattle.mapping.specs.Sheets.{place_of}
use Rattle.mapping.proofs.Entries.{at_place, none_stands, not_has}
use Rattle.std.specs.List.{slice_get}
use Rattle.std.proofs.lemmas.Option.{slice_get-get_or, slice_get_past}
use Rattle.mapping.proofs.sheet.Sheet.find.Goals as goal

pub returns-in_err-at : goal.returns-in_err-at
returns-in_err-at c =
    let n = c.args.number in
    let t = rows_of c.args.self.now in
    record {
      value = c.from_residual.ensures ∙ sym (slice_get_past t (place_of n t) c.in_err-at.ensures);
      stands = rw c.from_residual.ensures (none_stands n t (not_has n t c.in_err-at.ensures));
    }

pub returns : goal.returns
returns c =
    let n = c.args.number in
    let t = rows_of c.args.self.now in
    let p = c.in_ok-at.at in
    let same : row_at c.as_slice.result.now p ≡ row_at t p = ap (λ (u : List Row). row_at u p) c.as_slice.ensures.value in
    let at = c.in_ok-at.ensures.0 in
    let within = c.in_ok-at.ensures.1 in
    record {
      value = ap Some same ∙ sym (slice_get-get_or t p no_row within) ∙ ap (slice_get t) at;
      stands = (
        (p, (within, sym same)),
        ap (λ (r : Row). r.number) same ∙ ap (λ (i : ℕ). (row_at t i).number) at ∙ at_place n t (omega (arith, at, within)),
      );
    }
