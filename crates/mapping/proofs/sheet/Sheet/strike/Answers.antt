-- Each refusal by the test that failed, and the strike by the removal of the one row of the number; the course goes on by the course law.
use Rattle.std.proofs.Common.{◌≡◌, ◌<◌, true, false, length, Ok, refl, ap, ◌∙◌, ⊎_elim, arith}
use Rattle.analysis.specs.Questions.{no_row, row_at}
use Rattle.mapping.specs.Courses.{strike}
use Rattle.mapping.specs.Rows.{rows_of}
use Rattle.mapping.specs.Sheets.{has_number, place_of, row_in_range, same_number}
use Rattle.mapping.specs.declared.fault.SheetFault.TheVariants.{Missing}
use Rattle.std.specs.Option.{ok_or}
use Rattle.mapping.proofs.Course.{continues}
use Rattle.mapping.proofs.Entries.{does_have, none_stands, not_has, removed_is, sheet_limits, stands_from}
use Rattle.mapping.proofs.Outcomes.{strike_missing, strike_taken}
use Rattle.ordered.proofs.Testing.{apart_removed, every_removed}
use Rattle.std.specs.List.{remove}
use Rattle.std.proofs.lemmas.Option.{slice_get-get_or}
use Rattle.mapping.proofs.sheet.Sheet.strike.Goals as goal

pub returns-then-number-lt1-clause-continues : goal.returns-then-number-lt1-clause-continues
returns-then-number-lt1-clause-continues c =
    let t = rows_of c.args.self.now in
    continues t (strike c.args.number false) (λ s.
    let w = (sheet_limits c.args.self.now).ranges s.0 s.1.0 in
    ⊎_elim (λ h. omega (arith, w.number_least, s.1.1)) (λ h. omega (arith, w.number_most, s.1.1)) c.then-number-lt1.either) t refl

pub returns-in_default-clause-answer : goal.returns-in_default-clause-answer
returns-in_default-clause-answer c =
    let t = rows_of c.args.self.now in
    strike_missing c.args.number (has_number c.args.number t) (omega arith) (omega arith) (not_has c.args.number t c.in_default.ensures)

pub returns-in_default-clause-continues : goal.returns-in_default-clause-continues
returns-in_default-clause-continues c =
    let t = rows_of c.args.self.now in
    continues t (strike c.args.number false) (none_stands c.args.number t (not_has c.args.number t c.in_default.ensures)) t refl

pub invariant_of-self : goal.invariant_of-self
invariant_of-self c =
    let s = c.args.self.now in
    let t = rows_of s in
    let e = c.remove.ensures.items in
    record {
      roomy = c.remove.ensures.most ∙ s.roomy;
      ranges = rw e (every_removed row_in_range t c.in-Some.at s.ranges);
      apart = rw e (apart_removed same_number t c.in-Some.at s.apart);
    }

pub returns : goal.returns
returns c =
    let s = c.args.self.now in
    let t = rows_of s in
    let n = c.args.number in
    let p = c.in-Some.at in
    let q = c.in-Some.ensures.0 in
    let taken : c.ok_or.result ≡ Ok (row_at t p) =
    c.ok_or.ensures.value ∙ ap (λ o. ok_or o Missing) (c.remove.ensures.value ∙ slice_get-get_or t p no_row c.in-Some.ensures.1) in
    let within : place_of n t < length t = omega (arith, q, c.in-Some.ensures.1) in
    let h = does_have n t within in
    let e = c.remove.ensures.items ∙ ap (remove t) q ∙ removed_is n t s.apart within in
    record {
      answer = rw taken (strike_taken n (has_number n t) (omega arith) (omega arith) h);
      value = rw taken (ap (row_at t) q);
      rows = rw taken e;
      continues = rw taken (continues t (strike n true) (stands_from n t h) _ e);
    }
