-- What an entry of a row in its ranges whose number is new is answered with, and what a strike of a standing row is. Assumes nothing.
use Rattle.std.proofs.Common.{◌≡◌, ℕ, Bool, true, false, cond, ltb, List, length, is_ok, None, Ok, Err, Result, refl, arith}
use Rattle.analysis.specs.Ranges.{kept_cost, wrong_field}
use Rattle.analysis.specs.declared.row.Row.{Row}
use Rattle.mapping.specs.Courses.{Continues, entered, entry}
use Rattle.mapping.specs.Faults.{enter_outcome, outcome_of}
use Rattle.mapping.specs.Sheets.{has_number}
use Rattle.mapping.specs.declared.fault.SheetFault.{SheetFault}
use Rattle.mapping.specs.declared.fault.SheetFault.TheVariants.{Full}
use Rattle.mapping.proofs.Course.{continues}
use Rattle.mapping.proofs.Entries.{accepts_from}
use Rattle.mapping.proofs.Outcomes.{full, taken}
use Rattle.std.proofs.lemmas.Bool.{ltb-false, ltb-true}

-- the answer, by whether a place is free
abbrev pub told : Bool → Result (Unit {0}) SheetFault
told free = cond free (Ok tt) (Err Full)

module _ (t : List Row) (r : Row) (w : wrong_field kept_cost r ≡ None) (h : has_number r.number t ≡ false) where
  answered_by : (b : Bool) → ltb (length t) 128 ≡ b → outcome_of (told b) ≡ enter_outcome r t
  answered_by true e = taken (wrong_field kept_cost r) (has_number r.number t) (length t) w h (ltb-true (length t) 128 e)
  answered_by false e = full (wrong_field kept_cost r) (has_number r.number t) (length t) w h (ltb-false (length t) 128 e)

  continued_by : (b : Bool) → ltb (length t) 128 ≡ b → Continues t (entry r (is_ok (told b))) (cond b (entered r t) t)
  continued_by true e = continues t (entry r true) (accepts_from t r w h (ltb-true (length t) 128 e)) _ refl
  continued_by false e = continues t (entry r false) (λ a. omega (arith, a.free, ltb-false (length t) 128 e)) _ refl

  pub enter_answered : (most : ℕ) (o : Result (Unit {0}) SheetFault) → most ≡ 128 → o ≡ told (ltb (length t) most) → outcome_of o ≡ enter_outcome r t
  enter_answered most o m e = rw (e, m) (answered_by (ltb (length t) 128) refl)

  pub enter_continued :
      (most : ℕ) (o : Result (Unit {0}) SheetFault) (ys : List Row) → most ≡ 128 → o ≡ told (ltb (length t) most) →
      ys ≡ cond (ltb (length t) most) (entered r t) t → Continues t (entry r (is_ok o)) ys
  enter_continued most o ys m e y = rw (e, y, m) (continued_by (ltb (length t) 128) refl)
