-- The answer by whether there is room and whether there is a plan; the course goes on by the main theorem.
use Rattle.std.proofs.Common.{◌≡◌, List, length, Some, sym, refl, ap, ◌∙◌, subst, arith}
use Rattle.analysis.specs.declared.row.Row.{Row}
use Rattle.mapping.specs.Courses.{Limits}
use Rattle.mapping.specs.Plans.{plan}
use Rattle.mapping.specs.Rows.{rows_of}
use Rattle.mapping.proofs.Entries.{sheet_limits}
use Rattle.mapping.proofs.Mappings.{fresh_asked, fresh_marks, front_bounded, map_continues}
use Rattle.mapping.proofs.Bounds.{plan_bounded}
use Rattle.mapping.proofs.sheet.Sheet.map.Goals as goal

pub returns-then-room-rows-clause-continues : goal.returns-then-room-rows-clause-continues
returns-then-room-rows-clause-continues g c =
    map_continues _ (g.met.A.Analysis.lawful c.args.analysis.now) c.args.rule (length c.args.room.now) (rows_of c.args.self.now)

pub plan_rows-requires : goal.plan_rows-requires
plan_rows-requires g c =
    let rows = c.as_slice-rows.result.now in
    let limits = subst Limits (sym c.as_slice-rows.ensures.value) (sheet_limits c.args.self.now) in
    let fresh = fresh_marks rows limits.few in
    record { asked = fresh_asked rows _ limits fresh; fresh = fresh; empty = c.new-lines.ensures }

pub returns-in_default-clause-continues : goal.returns-in_default-clause-continues
returns-in_default-clause-continues g c =
    map_continues _ (g.met.A.Analysis.lawful c.args.analysis.now) c.args.rule (length c.args.room.now) (rows_of c.args.self.now)

pub copy_lines-requires : goal.copy_lines-requires
copy_lines-requires g c = omega (arith, ap length c.as_slice-plan.ensures.value, c.in-Some.ensures.within, c.if-room-rows.false)

pub returns-clause-bounds : goal.returns-clause-bounds
returns-clause-bounds g c =
    let a = c.args.analysis.now in
    let v = g.A.Analysis.verdict a in
    let t = rows_of c.args.self.now in
    let ls = c.plan_rows.new.lines.items in
    let plan_is : plan v c.args.rule t ≡ Some ls =
    sym (ap (λ (u : List Row). plan v c.args.rule u) c.as_slice-rows.ensures.value) ∙ sym c.in-Some.ensures.lines in
    let bounded = plan_bounded v (g.met.A.Analysis.lawful a) c.args.rule t (sheet_limits c.args.self.now) ls plan_is in
    front_bounded (length c.as_slice-plan.result.now) c.as_slice-plan.result.now _ c.copy_lines.new.room c.copy_lines.ensures refl
    (rw c.as_slice-plan.ensures.value bounded)

pub returns-clause-continues : goal.returns-clause-continues
returns-clause-continues g c =
    map_continues _ (g.met.A.Analysis.lawful c.args.analysis.now) c.args.rule (length c.args.room.now) (rows_of c.args.self.now)
