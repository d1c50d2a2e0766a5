-- Each call appends the answer to one line more, until none is left.
use Rattle.std.proofs.Common.{◌≡◌, ℕ, ◌-◌, ◌<◌, List, ◌++◌, append-nil, length, None, Ok, Option, vec_items, sym, refl, ap, ◌∙◌, arith}
use Rattle.script.specs.Begun.{script_of, taken_of}
use Rattle.reading.specs.Lines.{lines_of}
use Rattle.script.specs.Sessions.{answers_after}
use Rattle.script.specs.Turns.{answered, told_of, turn, turn_of}
use Rattle.script.specs.declared.turn.Answered.{Answered}
use Rattle.script.proofs.Writing.{Appends, appends_none, appends_one, never_short}
use Rattle.script.proofs.output.answer_lines.Goals.{in_default, in_default-2}
use Rattle.script.proofs.output.answer_lines.Goals as goal

appended : (c : goal.In_ok-extend_from_slice) → Appends (script_of c.loop-answered.session) (taken_of c.loop-answered.session) (taken_of c.answer.new.self) (vec_items c.loop-answered.out) (vec_items c.extend_from_slice.new.self)
appended c =
    let s = c.loop-answered.session in
    let room = c.loop-answered.room in
    let h = c.in-Ok-Some.ensures in
    let a = c.in-Ok-Some.answered in
    let t : answered a.line a.bytes (told_of a.outcome) ≡ turn (script_of s) (taken_of s) (length room) =
    ap (λ (o : Option Answered). turn_of (Ok o)) (sym c.in-Ok-Some.field-0-is) ∙ h.answer in
    appends_one (script_of s) (taken_of s) a.line a.bytes (length room) (told_of a.outcome) room c.answer.new.room refl (omega (arith, c.loop-answered.invariant.roomy)) t h.room
    (taken_of c.answer.new.self) h.taken (vec_items c.loop-answered.out) (vec_items c.extend_from_slice.new.self) c.in_ok-extend_from_slice.ensures.items

pub loop-answered-smaller : goal.loop-answered-smaller
loop-answered-smaller c =
    let p = appended c in
    let s = c.loop-answered.session in
    let same = ap (λ (z : List ℕ). length (lines_of z)) c.in-Ok-Some.ensures.script in
    let less : length (lines_of (script_of c.answer.new.self)) - taken_of c.answer.new.self < length (lines_of (script_of s)) - taken_of s =
    omega (arith, p.more, p.next, same) in
    less

pub loop-answered-preserved : goal.loop-answered-preserved
loop-answered-preserved c =
    let p = appended c in
    let h = c.in-Ok-Some.ensures in
    let v = c.loop-answered.invariant in
    record {
      roomy = omega (arith, v.roomy, c.answer.auto.room);
      same = h.script ∙ v.same;
      all = ap (λ (z : List ℕ). vec_items c.extend_from_slice.new.self ++ answers_after z (taken_of c.answer.new.self)) h.script ∙ p.all ∙ v.all;
    }

pub returns : goal.returns
returns c =
    let s = c.loop-answered.session in
    let v = c.loop-answered.invariant in
    let out = vec_items c.loop-answered.out in
    elim c.match-answer.branch [
      | in_default w ↦
          let none : w.in_default.field-0 ≡ None = cc in
          sym (append-nil out)
          ∙ ap (λ (z : List ℕ). out ++ z) (sym (appends_none (script_of s) (taken_of s) (length c.loop-answered.room) (omega (arith, v.roomy)) (rw none at (rw w.in_default.is at c.answer.ensures.answer)))) ∙ v.all
      | in_default-2 w ↦
          absurd (never_short (script_of s) (taken_of s) (length c.loop-answered.room) (omega (arith, v.roomy)) w.in_default.field-0 (rw w.in_default.is at c.answer.ensures.answer))
    ]
