-- All that is written for a script, line after line. Assumes nothing.
use Rattle.std.proofs.Common.{◌≡◌, ℕ, suc, ◌+◌, ◌<◌, ◌≤◌, List, [], ◌∷◌, ◌++◌, length, take, drop, Err, sym, refl, ap, ◌∙◌, add-one, arith}
use Rattle.std.proofs.lemmas.List.{append_assoc, length-drop, take_at}
use Rattle.reading.specs.Lines.{lines_of}
use Rattle.reading.specs.Says.{reading_of}
use Rattle.script.specs.Sessions.{State, after_read, answer_text, answers_after, answers_from, reply_read, state_after}
use Rattle.script.specs.Turns.{Told, answered, no_more, room_after, short_room, taken_after, turn, turn_of}
use Rattle.script.specs.declared.fault.SessionFault.{SessionFault}
use Rattle.script.specs.declared.fault.SessionFault.TheVariants.{Room}
use Rattle.script.proofs.Taking.{end_turn, next_rest, next_room, next_state, next_taken, next_turn}

-- one more answer was written
pub record Appends (script : List ℕ) (k k' : ℕ) (out out' : List ℕ) : Type 0 where
  pub more : k < length (lines_of script)
  pub next : k' ≡ k + 1
  pub all : out' ++ answers_after script k' ≡ out ++ answers_after script k

module _ (script : List ℕ) (k : ℕ) where
  step_from :
      (line bytes n : ℕ) (told : Told) (room room' : List ℕ) → length room ≡ n → 4096 ≤ n → answered line bytes told ≡ turn script k n →
      room' ≡ room_after script k room → (k' : ℕ) → k' ≡ taken_after script k n → (out out' : List ℕ) → out' ≡ out ++ take bytes room' →
      (d : List (List ℕ)) → drop k (lines_of script) ≡ d → Appends script k k' out out'
  step_from line bytes n told room room' l h a r k' c out out' o [] e =
      let q = end_turn script k e n h in let z : ◌≡◌ {A = ℕ} 0 1 = cc in absurd (omega arith)
  step_from line bytes n told room room' l h a r k' c out out' o (y ∷ ys) e =
      let p = reply_read (state_after script k) (reading_of y) in
      let t = answer_text (k + 1) p in
      let q = next_turn script k y ys e n h in
      let b : bytes ≡ length t = cc in
      let w : room' ≡ t ++ drop (length t) room = r ∙ sym (next_room script k y ys e room (omega arith)) in
      let front : take bytes room' ≡ t = ap (take bytes) w ∙ take_at t (drop (length t) room) bytes (sym b) in
      let long = length-drop k (lines_of script) in
      let some = ap length e in
      let rest = answers_from (after_read (state_after script k) (reading_of y)) (suc (k + 1)) ys in
      let now : answers_after script k ≡ t ++ rest =
      ap (λ (d : List (List ℕ)). answers_from (state_after script k) (suc k) d) e ∙ rw add-one refl in
      let later : answers_after script (k + 1) ≡ rest =
      ap (λ (s : State). answers_from s (suc (k + 1)) (drop (k + 1) (lines_of script))) (next_state script k y ys e)
      ∙ ap (λ (d : List (List ℕ)). answers_from (after_read (state_after script k) (reading_of y)) (suc (k + 1)) d) (next_rest script k y ys e) in
      let counted : k' ≡ k + 1 = c ∙ sym (next_taken script k y ys e n h) in
      record {
        more = omega arith;
        next = counted;
        all =
            ap (λ (x : List ℕ). x ++ answers_after script k') (o ∙ ap (λ (x : List ℕ). out ++ x) front)
            ∙ ap (λ (j : ℕ). (out ++ t) ++ answers_after script j) counted
            ∙ ap (λ (x : List ℕ). (out ++ t) ++ x) later ∙ append_assoc out t rest ∙ ap (λ (x : List ℕ). out ++ x) (sym now);
      }

  -- a call that answers a line
  pub appends_one :
      (line bytes n : ℕ) (told : Told) (room room' : List ℕ) → length room ≡ n → 4096 ≤ n → answered line bytes told ≡ turn script k n →
      room' ≡ room_after script k room → (k' : ℕ) → k' ≡ taken_after script k n → (out out' : List ℕ) → out' ≡ out ++ take bytes room' →
      Appends script k k' out out'
  appends_one line bytes n told room room' l h a r k' c out out' o =
      step_from line bytes n told room room' l h a r k' c out out' o (drop k (lines_of script)) refl

  end_from : (n : ℕ) → 4096 ≤ n → no_more ≡ turn script k n → (d : List (List ℕ)) → drop k (lines_of script) ≡ d → answers_after script k ≡ []
  end_from n h a [] e = ap (λ (d : List (List ℕ)). answers_from (state_after script k) (suc k) d) e
  end_from n h a (y ∷ ys) e =
      let q = next_turn script k y ys e n h in let z : ◌≡◌ {A = ℕ} 0 1 = cc in absurd (omega arith)

  -- a call that finds no line
  pub appends_none : (n : ℕ) → 4096 ≤ n → no_more ≡ turn script k n → answers_after script k ≡ []
  appends_none n h a = end_from n h a (drop k (lines_of script)) refl

  never_from : (n : ℕ) → 4096 ≤ n → short_room ≡ turn script k n → (d : List (List ℕ)) → drop k (lines_of script) ≡ d → ⊥
  never_from n h a [] e = let q = end_turn script k e n h in let z : ◌≡◌ {A = ℕ} 0 1 = cc in omega arith
  never_from n h a (y ∷ ys) e = let q = next_turn script k y ys e n h in let z : ◌≡◌ {A = ℕ} 0 1 = cc in omega arith

  -- a room of 4,096 bytes is never too short
  pub never_short : (n : ℕ) → 4096 ≤ n → (e : SessionFault) → turn_of (Err e) ≡ turn script k n → ⊥
  never_short n h Room a = never_from n h a (drop k (lines_of script)) refl
