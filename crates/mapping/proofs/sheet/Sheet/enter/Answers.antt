-- Each refusal by the test that failed, and the entry by the insertion of the list below; the course goes on by the course law.
use Rattle.std.proofs.Common.{◌≡◌, false, is_none, ltb, length, sym, refl, ap, ◌∙◌, rules}
use Rattle.analysis.specs.Ranges.{kept_cost, wrong_field}
use Rattle.analysis.proofs.Checks.{range_right}
use Rattle.mapping.specs.Courses.{entry}
use Rattle.mapping.specs.Rows.{rows_of}
use Rattle.mapping.specs.Sheets.{has_number, row_in_range, same_number}
use Rattle.mapping.proofs.Course.{continues}
use Rattle.mapping.proofs.Entered.{enter_answered, enter_continued, told}
use Rattle.mapping.proofs.Entries.{found_has, found_not, number_turns, some_none, stands_from}
use Rattle.mapping.proofs.Outcomes.{standing}
use Rattle.ordered.proofs.Testing.{apart_kept, every_kept}
use Rattle.mapping.proofs.sheet.Sheet.enter.Goals as goal

pub returns-in-Some-clause-continues : goal.returns-in-Some-clause-continues
returns-in-Some-clause-continues c =
    let t = rows_of c.args.self.now in
    let r = c.args.row in
    continues t (entry r false) (λ a. some_none c.in-Some.field (c.in-Some.ensures ∙ range_right kept_cost r a.ranges)) t refl

pub returns-then-is_some : goal.returns-then-is_some
returns-then-is_some c =
    let t = rows_of c.args.self.now in
    let r = c.args.row in
    let h = found_has r.number t c.place_of.result c.place_of.ensures (sym c.is_some.ensures ∙ c.if-is_some.true) in
    record {
      answer = standing (wrong_field kept_cost r) (has_number r.number t) (length t) (sym c.in_default.ensures) h;
      rows = refl;
      continues = continues t (entry r false) (λ a. a.new (stands_from r.number t h)) t refl;
    }

pub invariant_of-self : goal.invariant_of-self
invariant_of-self c =
    let s = c.args.self.now in
    let t = rows_of s in
    let r = c.args.row in
    let free = ltb (length t) s.rows.most in
    let h = found_not r.number t c.place_of.result c.place_of.ensures (sym c.is_some.ensures ∙ c.if-is_some.false) in
    record {
      roomy = c.insert.ensures.most ∙ s.roomy;
      ranges = every_kept row_in_range (λ x. x.deadline) free r t _ c.insert.ensures.items (ap is_none (sym c.in_default.ensures)) s.ranges;
      apart = apart_kept same_number number_turns (λ x. x.deadline) free r t _ c.insert.ensures.items h s.apart;
    }

pub returns-clause-answer : goal.returns-clause-answer
returns-clause-answer c =
    let s = c.args.self.now in
    let t = rows_of s in
    let h = found_not c.args.row.number t c.place_of.result c.place_of.ensures (sym c.is_some.ensures ∙ c.if-is_some.false) in
    let e : c.map_err.result ≡ told (ltb (length t) s.rows.most) = search rules in
    enter_answered t c.args.row (sym c.in_default.ensures) h s.rows.most c.map_err.result s.roomy e

pub returns-clause-continues : goal.returns-clause-continues
returns-clause-continues c =
    let s = c.args.self.now in
    let t = rows_of s in
    let h = found_not c.args.row.number t c.place_of.result c.place_of.ensures (sym c.is_some.ensures ∙ c.if-is_some.false) in
    let e : c.map_err.result ≡ told (ltb (length t) s.rows.most) = search rules in
    enter_continued t c.args.row (sym c.in_default.ensures) h s.rows.most c.map_err.result _ s.roomy e c.insert.ensures.items
