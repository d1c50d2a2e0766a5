-- One line is taken: the state and the answer after it are those that are defined for the script.
use Rattle.std.proofs.Common.{◌≡◌, ℕ, ◌+◌, List, ◌∷◌, ◌++◌, length, drop, sym, refl, ap, ◌∙◌, subst, arith, rules}
use Rattle.std.proofs.lemmas.Bool.{lt-ltb}
use Rattle.reading.specs.Lines.{lines_of}
use Rattle.reading.specs.Reading.{left, next_spot}
use Rattle.reading.specs.Says.{Read, outcome, reading_of}
use Rattle.script.specs.Sessions.{State, after_read, answer_text, reply_read, state_after}
use Rattle.script.specs.Turns.{Told, answered, told_of}
use Rattle.script.specs.Works.{Matches, Replies}
use Rattle.script.proofs.Coursing.{script_law}
use Rattle.script.proofs.Taking.{end_room, end_taken, end_turn, next_rest, next_room, next_state, next_taken, next_turn, replied_fitting, replied_text, replied_told}
use Rattle.script.proofs.session.Session.answer.Goals as goal

pub returns-then-room-lt-LEAST_ROOM : goal.returns-then-room-lt-LEAST_ROOM
returns-then-room-lt-LEAST_ROOM c =
    let short = lt-ltb (length c.args.room.now) 4096 c.if-room-lt-LEAST_ROOM.true in
    record {
      answer = rw short;
      room = rw short;
      within = tt;
      script = refl;
      taken = rw short;
      course = script_law c.args.self.now.reader.script.now c.args.self.now.taken;
    }

pub returns-in_default : goal.returns-in_default
returns-in_default c =
    let s = c.args.self.now in
    let script = s.reader.script.now in
    let h = c.in_default.ensures in
    let e = s.rest ∙ ap lines_of h.line in
    record {
      answer = end_turn script s.taken e (length c.args.room.now) c.if-room-lt-LEAST_ROOM.false;
      room = end_room script s.taken e c.args.room.now c.if-room-lt-LEAST_ROOM.false;
      within = tt;
      script = ap (λ r. r.script.now) h.moved;
      taken = end_taken script s.taken e (length c.args.room.now) c.if-room-lt-LEAST_ROOM.false;
      course = script_law c.read.new.self.script.now s.taken;
    }

pub invariant_of-self-2 : goal.invariant_of-self-2
invariant_of-self-2 c =
    let s = c.args.self.now in
    let script = s.reader.script.now in
    let k = s.taken in
    let h = c.in-Some.ensures in
    let y = (next_spot s.reader).text in
    let e : drop k (lines_of script) ≡ y ∷ lines_of (left c.read.new.self) = s.rest ∙ h.line in
    let m : Matches s.work (state_after script k) = record { rows = s.rows; pairs = s.pairs; charge = s.charge; margin = s.margin } in
    let n = subst (λ (x : Read). Matches c.take-outcome.new.self (after_read (state_after script k) x)) h.value (c.take-outcome.ensures.after (state_after script k) m) in
    let same = h.moved.script in
    let len = ap length same in
    let same_state : after_read (state_after script k) (reading_of y) ≡ state_after c.read.new.self.script.now (k + 1) =
    sym (next_state script k y (lines_of (left c.read.new.self)) e) ∙ ap (λ (z : List ℕ). state_after z (k + 1)) (sym same) in
    let kept = subst (λ (z : State). Matches c.take-outcome.new.self z) same_state n in
    record {
      short = omega (arith, s.short);
      counted = omega (arith, s.counted, h.moved.further);
      within = omega (arith, h.moved.within);
      rest = ap (λ (z : List ℕ). drop (k + 1) (lines_of z)) same ∙ next_rest script k y (lines_of (left c.read.new.self)) e;
      rows = kept.rows;
      pairs = kept.pairs;
      charge = kept.charge;
      margin = kept.margin;
    }

pub write_outcome-bytes-requires : goal.write_outcome-bytes-requires
write_outcome-bytes-requires c =
    let s = c.args.self.now in
    let script = s.reader.script.now in
    let k = s.taken in
    let h = c.in-Some.ensures in
    let m : Matches s.work (state_after script k) = record { rows = s.rows; pairs = s.pairs; charge = s.charge; margin = s.margin } in
    let n : length c.take-outcome.new.self.lines ≡ 128 = search rules in
    record {
      roomy = c.if-room-lt-LEAST_ROOM.false;
      early = omega (arith, s.short, s.counted, h.moved.further, h.moved.within);
      fitting =
          replied_fitting (reply_read (state_after script k) (outcome c.in-Some.read)) c.take-outcome.result c.take-outcome.new.self.lines n
          (c.take-outcome.ensures.reply (state_after script k) m);
    }

pub returns : goal.returns
returns c =
    let s = c.args.self.now in
    let script = s.reader.script.now in
    let k = s.taken in
    let room = c.args.room.now in
    let h = c.in-Some.ensures in
    let y = (next_spot s.reader).text in
    let ys = lines_of (left c.read.new.self) in
    let e : drop k (lines_of script) ≡ y ∷ ys = s.rest ∙ h.line in
    let m : Matches s.work (state_after script k) = record { rows = s.rows; pairs = s.pairs; charge = s.charge; margin = s.margin } in
    let p = reply_read (state_after script k) (reading_of y) in
    let r : Replies p c.take-outcome.result c.take-outcome.new.self.lines =
    subst (λ (x : Read). Replies (reply_read (state_after script k) x) c.take-outcome.result c.take-outcome.new.self.lines) h.value
    (c.take-outcome.ensures.reply (state_after script k) m) in
    let t = replied_text p c.take-outcome.result c.take-outcome.new.self.lines r (k + 1) in
    let w = c.write_outcome-bytes.ensures.writes in
    record {
      answer =
          ap (λ (b : ℕ). answered (k + 1) b (told_of c.take-outcome.result)) (w.0 ∙ ap length t)
          ∙ ap (λ (x : Told). answered (k + 1) (length (answer_text (k + 1) p)) x) (replied_told p c.take-outcome.result c.take-outcome.new.self.lines r)
          ∙ next_turn script k y ys e (length room) c.if-room-lt-LEAST_ROOM.false;
      room = w.1 ∙ ap (λ (x : List ℕ). x ++ drop (length x) room) t ∙ next_room script k y ys e room c.if-room-lt-LEAST_ROOM.false;
      within = c.write_outcome-bytes.ensures.within;
      script = h.moved.script;
      taken = next_taken script k y ys e (length room) c.if-room-lt-LEAST_ROOM.false;
      course = script_law c.read.new.self.script.now (k + 1);
    }
