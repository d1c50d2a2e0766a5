-- The lines that stand, ahead of the plan of the rows that are left, are the plan.
use Rattle.std.proofs.Common.{◌≡◌, ℕ, suc, ◌+◌, ◌-◌, List, ◌++◌, length, Some, Option, sym, ap, ◌∙◌, subst, append-nil, arith}
use Rattle.analysis.specs.declared.row.Mark.{Mark}
use Rattle.mapping.specs.Plans.{candidates, lines_from, members, placed, plan, plan_from, unplaced}
use Rattle.mapping.specs.Rounds.{Usable}
use Rattle.mapping.specs.declared.plan.PlanLine.{PlanLine}
use Rattle.mapping.specs.declared.round.Candidate.{Candidate}
use Rattle.mapping.proofs.Members.{members_some}
use Rattle.mapping.proofs.Planning.{ahead, ahead_none, left_members, lines_length, plan_done, plan_on}
use Rattle.mapping.proofs.Placing.{unplaced_all_above}
use Rattle.mapping.proofs.Rounds.{count_most, usable}
use Rattle.mapping.proofs.round.plans.plan_rows.Goals as goal

pub loop-rule-init : goal.loop-rule-init
loop-rule-init g c =
    let v = g.A.Analysis.verdict c.args.analysis.now in
    let t = c.args.rows.now in
    let m = c.args.marks.now in
    let all : unplaced m ≡ length t = ap (λ (u : List Mark). unplaced u) c.requires.fresh ∙ unplaced_all_above t in
    let n : length t + 1 - 1 ≡ length t = omega arith in (
      c.requires.asked,
      omega arith,
      omega arith,
      omega (arith, all, ap length c.requires.empty),
      rw c.requires.empty
          (ahead_none _ ∙ ap (λ (k : ℕ). plan_from k v c.args.rule t 1 m) n ∙ ap (λ (u : List Mark). plan_from (length t) v c.args.rule t 1 u) c.requires.fresh),
    )

pub of-requires : goal.of-requires
of-requires g c =
    let e = c.as_slice-found.ensures.value ∙ c.candidates.ensures in
    (subst (Usable (length c.loop-rule.marks)) (sym e) (usable (g.A.Analysis.verdict c.args.analysis.now) c.args.rows.now c.loop-rule.marks c.loop-rule.invariant.0)).periods

pub place_members-requires-clause-usable : goal.place_members-requires-clause-usable
place_members-requires-clause-usable g c =
    let e = c.as_slice-found.ensures.value ∙ c.candidates.ensures in
    subst (Usable (length c.loop-rule.marks)) (sym e) (usable (g.A.Analysis.verdict c.args.analysis.now) c.args.rows.now c.loop-rule.marks c.loop-rule.invariant.0)

pub place_members-requires-clause-room : goal.place_members-requires-clause-room
place_members-requires-clause-room g c =
    let v = g.A.Analysis.verdict c.args.analysis.now in
    let e = ap length (c.as_slice-found.ensures.value ∙ c.candidates.ensures) in
    let most = count_most (v c.args.rows.now c.loop-rule.marks) 0 c.args.rows.now c.loop-rule.marks in
    let I = c.loop-rule.invariant in
    omega (arith, e, most, I.3, I.0.few)

pub loop-rule-preserved : goal.loop-rule-preserved
loop-rule-preserved g c =
    let v = g.A.Analysis.verdict c.args.analysis.now in
    let rule = c.args.rule in
    let t = c.args.rows.now in
    let m = c.loop-rule.marks in
    let task = c.loop-rule.task in
    let ls = c.loop-rule.lines.items in
    let ms = members rule (candidates v t m) in
    let I = c.loop-rule.invariant in
    let found = c.as_slice-found.ensures.value ∙ c.candidates.ensures in
    let led_are = c.in_ok-lead.ensures.0 ∙ ap (members rule) found in
    let some = members_some rule (candidates v t m) (omega (arith, c.in_ok-lead.ensures.2, ap length found)) in
    let lines = c.place_members.ensures.lines ∙ ap (λ (u : List Candidate). ls ++ lines_from task 1 u) led_are in
    let marks = c.place_members.ensures.marks ∙ ap (λ (u : List Candidate). placed u m) led_are in
    let left = left_members v rule t m in
    let count : unplaced c.place_members.new.marks + length ms ≡ unplaced m = rw marks left in
    let long : length c.place_members.new.lines.items ≡ length ls + length ms = rw lines (lines_length ls task ms) in
    let fuel : length t + 1 - task ≡ suc (length t + 1 - (task + 1)) = omega (arith, I.1, I.2, c.loop-rule-test.true) in
    let on = plan_on v rule t task (length t + 1 - task) (length t + 1 - (task + 1)) m ls c.place_members.new.lines.items (plan v rule t) fuel
    (omega (arith, I.3, c.loop-rule-test.true)) some lines I.4 in (
      record { few = I.0.few; marked = omega (arith, I.0.marked); ranges = I.0.ranges },
      omega arith,
      omega (arith, I.2, long, some),
      omega (arith, count, long, I.3),
      ap (λ (u : List Mark). ahead c.place_members.new.lines.items (plan_from (length t + 1 - (task + 1)) v rule t (task + 1) u)) marks ∙ on,
    )

pub loop-rule-smaller : goal.loop-rule-smaller
loop-rule-smaller g c =
    let v = g.A.Analysis.verdict c.args.analysis.now in
    let ls = c.loop-rule.lines.items in
    let ms = members c.args.rule (candidates v c.args.rows.now c.loop-rule.marks) in
    let found = c.as_slice-found.ensures.value ∙ c.candidates.ensures in
    let led_are = c.in_ok-lead.ensures.0 ∙ ap (members c.args.rule) found in
    let some = members_some c.args.rule (candidates v c.args.rows.now c.loop-rule.marks) (omega (arith, c.in_ok-lead.ensures.2, ap length found)) in
    let lines = c.place_members.ensures.lines ∙ ap (λ (u : List Candidate). ls ++ lines_from c.loop-rule.task 1 u) led_are in
    let long : length c.place_members.new.lines.items ≡ length ls + length ms = rw lines (lines_length ls c.loop-rule.task ms) in
    omega (arith, long, some, c.loop-rule-test.true)

pub returns-clause-lines : goal.returns-clause-lines
returns-clause-lines g c =
    let v = g.A.Analysis.verdict c.args.analysis.now in
    let t = c.args.rows.now in
    let ls = c.loop-rule.lines.items in
    let I = c.loop-rule.invariant in
    let done = plan_done v c.args.rule t c.loop-rule.task (length t + 1 - c.loop-rule.task) c.loop-rule.marks (omega (arith, I.3, c.loop-rule-test.false)) in
    sym (sym I.4 ∙ ap (λ (p : Option (List PlanLine)). ahead ls p) done ∙ ap (λ (u : List PlanLine). Some u) (append-nil ls))
