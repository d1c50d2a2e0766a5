-- One line more of a script. Assumes nothing.
use Rattle.std.proofs.Common.{◌≡◌, ℕ, zero, suc, ◌+◌, ◌≤◌, List, [], ◌∷◌, ◌++◌, length, take, drop, Some, None, Option, Result, sym, refl, ap, ◌∙◌, subst, add-one, add-zero, take-add, arith}
use Rattle.std.proofs.lemmas.Bool.{le-ltb}
use Rattle.std.proofs.lemmas.List.{drop-drop}
use Rattle.std.specs.List.{AllByRecursion, slice_get}
use Rattle.mapping.specs.Replies.{Bounded, Modest, last_task}
use Rattle.mapping.specs.declared.plan.Issued.{Issued}
use Rattle.mapping.specs.declared.plan.PlanLine.{PlanLine}
use Rattle.reading.specs.Lines.{lines_of}
use Rattle.reading.specs.Says.{reading_of}
use Rattle.script.specs.Answers.{plan_text, refusal_text}
use Rattle.script.specs.Refusals.{Refusal}
use Rattle.script.specs.Sessions.{Reply, State, after_read, answer_text, planned, refused, reply_at, reply_read, reply_to, runs, silent, start, state_after}
use Rattle.script.specs.Turns as turns
use Rattle.script.specs.Turns.{answered, no_more, room_after, taken_after, told_by, told_of, turn}
use Rattle.script.specs.Works.{Fitting, Replies, outcome_text}
use Rattle.script.specs.declared.fault.Fault.{Fault}

-- ---- lists

pub nth_drop : (xs : List (List ℕ)) (a m : ℕ) → slice_get (drop a xs) m ≡ slice_get xs (a + m)
nth_drop xs zero m = let z : m ≡ 0 + m = omega arith in ap (slice_get xs) z
nth_drop [] (suc a) m = refl
nth_drop (x ∷ xs) (suc a) m = let z : suc (a + m) ≡ suc a + m = omega arith in nth_drop xs a m ∙ ap (slice_get (x ∷ xs)) z

module _ (xs : List (List ℕ)) (k : ℕ) where
  nth_rest : (rest : List (List ℕ)) → drop k xs ≡ rest → slice_get xs k ≡ slice_get rest 0
  nth_rest rest e = ap (slice_get xs) (sym (add-zero k)) ∙ sym (nth_drop xs k 0) ∙ ap (λ (l : List (List ℕ)). slice_get l 0) e

  take_next : (y : List ℕ) (ys : List (List ℕ)) → drop k xs ≡ y ∷ ys → take (k + 1) xs ≡ take k xs ++ y ∷ []
  take_next y ys e = take-add k 1 xs ∙ ap (λ (l : List (List ℕ)). take k xs ++ take 1 l) e

  drop_next : (y : List ℕ) (ys : List (List ℕ)) → drop k xs ≡ y ∷ ys → drop (k + 1) xs ≡ ys
  drop_next y ys e = sym (drop-drop 1 k xs) ∙ ap (drop 1) e

pub runs_append : (s : State) (xs ys : List (List ℕ)) → runs s (xs ++ ys) ≡ runs (runs s xs) ys
runs_append s [] ys = refl
runs_append s (x ∷ xs) ys = runs_append (after_read s (reading_of x)) xs ys

-- ---- no line is left

module _ (script : List ℕ) (k : ℕ) (e : drop k (lines_of script) ≡ []) where
  none : reply_at script k ≡ None
  none = ap (reply_to (state_after script k)) (nth_rest (lines_of script) k [] e)

  pub end_turn : (n : ℕ) → 4096 ≤ n → no_more ≡ turn script k n
  end_turn n h = rw (le-ltb n 4096 h, none)

  pub end_room : (room : List ℕ) → 4096 ≤ length room → room ≡ room_after script k room
  end_room room h = rw (le-ltb (length room) 4096 h, none)

  pub end_taken : (n : ℕ) → 4096 ≤ n → k ≡ taken_after script k n
  end_taken n h = rw (le-ltb n 4096 h, none)

-- ---- a line is left

module _ (script : List ℕ) (k : ℕ) (y : List ℕ) (ys : List (List ℕ)) (e : drop k (lines_of script) ≡ y ∷ ys) where
  abbrev reply : Reply
  reply = reply_read (state_after script k) (reading_of y)

  some : reply_at script k ≡ Some reply
  some = ap (reply_to (state_after script k)) (nth_rest (lines_of script) k (y ∷ ys) e)

  pub next_state : state_after script (k + 1) ≡ after_read (state_after script k) (reading_of y)
  next_state = ap (runs start) (take_next (lines_of script) k y ys e) ∙ runs_append start (take k (lines_of script)) (y ∷ [])

  pub next_rest : drop (k + 1) (lines_of script) ≡ ys
  next_rest = drop_next (lines_of script) k y ys e

  pub next_turn : (n : ℕ) → 4096 ≤ n → answered (k + 1) (length (answer_text (k + 1) reply)) (told_by reply) ≡ turn script k n
  next_turn n h = rw (le-ltb n 4096 h, some, add-one)

  pub next_room : (room : List ℕ) → 4096 ≤ length room →
      answer_text (k + 1) reply ++ drop (length (answer_text (k + 1) reply)) room ≡ room_after script k room
  next_room room h = rw (le-ltb (length room) 4096 h, some, add-one)

  pub next_taken : (n : ℕ) → 4096 ≤ n → k + 1 ≡ taken_after script k n
  next_taken n h = rw (le-ltb n 4096 h, some, add-one)

-- ---- outcomes

pub replied_text : (p : Reply) (r : Result (Option Issued) Fault) (ls : List PlanLine) → Replies p r ls → (line : ℕ) →
    outcome_text line r ls ≡ answer_text line p
replied_text silent r ls h line = ap (λ (o : Result (Option Issued) Fault). outcome_text line o ls) h
replied_text (planned ps) r ls h line =
    ap (λ (o : Result (Option Issued) Fault). outcome_text line o ls) h.0
    ∙ ap (λ (l : List PlanLine). plan_text line (last_task 0 ps) (length ps) l) h.1.0
replied_text (refused x) r ls h line =
    ap (λ (o : Result (Option Issued) Fault). outcome_text line o ls) h.1.0
    ∙ ap (λ (f : Refusal). refusal_text line f.field f.code) h.1.1

pub replied_told : (p : Reply) (r : Result (Option Issued) Fault) (ls : List PlanLine) → Replies p r ls → told_of r ≡ told_by p
replied_told silent r ls h = ap told_of h
replied_told (planned ps) r ls h = ap told_of h.0
replied_told (refused x) r ls h = ap told_of h.1.0 ∙ ap turns.refused h.1.1

last_modest : (n : ℕ) (ls : List PlanLine) → n ≤ 128 → AllByRecursion Modest ls → last_task n ls ≤ 128
last_modest n [] h a = h
last_modest n (l ∷ ls) h a = last_modest l.task ls a.0.task a.1

pub replied_fitting : (p : Reply) (r : Result (Option Issued) Fault) (ls : List PlanLine) → length ls ≡ 128 → Replies p r ls → Fitting r ls
replied_fitting silent r ls n h = subst (λ (o : Result (Option Issued) Fault). Fitting o ls) (sym h) tt
replied_fitting (planned ps) r ls n h =
    subst (λ (o : Result (Option Issued) Fault). Fitting o ls) (sym h.0)
    (last_modest 0 ps (omega arith) h.1.1.each, (omega (arith, h.1.1.few), subst Bounded (sym h.1.0) h.1.1))
replied_fitting (refused x) r ls n h = subst (λ (o : Result (Option Issued) Fault). Fitting o ls) (sym h.1.0) tt
