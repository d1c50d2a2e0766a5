-- What an entry and a strike say of the rows. Assumes nothing.
use Rattle.std.proofs.Common.{◌≡◌, ℕ, ◌<◌, ◌≤◌, true, false, cond, not, eqb, ltb, List, [], ◌∷◌, length, is_none, is_some, Some, None, Option, MatchOption, sym, refl, ◌∙◌, ⊎_elim, arith}
use Rattle.analysis.specs.Questions.{no_row, row_at}
use Rattle.analysis.specs.Ranges.{InRange, kept_cost, wrong_field}
use Rattle.analysis.specs.declared.row.Row.{Row}
use Rattle.analysis.proofs.Checks.{right_range}
use Rattle.mapping.specs.Courses.{Accepts, Limits, struck}
use Rattle.mapping.specs.Orders.{Stands}
use Rattle.mapping.specs.Rows.{rows_of}
use Rattle.mapping.specs.Sheets.{distinct, has_number, in_ranges, place_of, row_in_range, same_number}
use Rattle.mapping.specs.declared.sheet.Sheet.{Sheet}
use Rattle.mapping.proofs.Struck.{struck_removed}
use Rattle.mapping.proofs.Tables.{Absent, Apart, absent_at, same_place}
use Rattle.ordered.proofs.Testing.{every_at, first_passes, first_place_is, none_every, some_is}
use Rattle.std.specs.List.{list_all, position, position_or_len, remove, slice_get}
use Rattle.std.proofs.ByRecursion.{All-from_get_or}
use Rattle.std.proofs.lemmas.Option.{slice_get-get_or as nth_getD, slice_get_past as nth_past}
use Rattle.std.proofs.lemmas.Bool.{and_parts, cases_lt, cond_both, ltb-false, eqb-false, eqb-true, le-ltb, lt-ltb, ltb-true, ne_eqb, not-true}

-- ---- the place of a number

pub has_is : (n : ℕ) (t : List Row) → has_number n t ≡ ltb (place_of n t) (length t)
has_is n t = some_is (λ s. eqb s.number n) t

pub not_has : (n : ℕ) (t : List Row) → length t ≤ place_of n t → has_number n t ≡ false
not_has n t l = has_is n t ∙ le-ltb (place_of n t) (length t) l

pub does_have : (n : ℕ) (t : List Row) → place_of n t < length t → has_number n t ≡ true
does_have n t l = has_is n t ∙ lt-ltb (place_of n t) (length t) l

-- what a search for a number finds
abbrev pub FoundPlace : ℕ → List Row → Option ℕ → Type 0
FoundPlace n t r = MatchOption r (length t ≤ place_of n t) (λ p. (p ≡ place_of n t) × (p < length t))

found_step : (n : ℕ) (t : List Row) (p : ℕ) → place_of n t ≡ p → FoundPlace n t (cond (ltb p (length t)) (Some p) None)
found_step n t p e =
    cond_both (ltb p (length t)) (Some p) None (FoundPlace n t) (λ h. (sym e, ltb-true p (length t) h)) (λ h. omega (arith, e, ltb-false p (length t) h))

pub found_place : (n : ℕ) (t : List Row) (r : Option ℕ) → r ≡ position (λ s. eqb s.number n) t → FoundPlace n t r
found_place n t r e =
    rw e (found_step n t (position_or_len (λ s. eqb s.number n) t) (first_place_is (λ s. eqb s.number n) t))

pub found_has : (n : ℕ) (t : List Row) (r : Option ℕ) → FoundPlace n t r → is_some r ≡ true → has_number n t ≡ true
found_has n t None f e = let z : ◌≡◌ {A = ℕ} 0 1 = cc in absurd (omega arith)
found_has n t (Some p) f e = does_have n t (omega (arith, f.0, f.1))

pub found_not : (n : ℕ) (t : List Row) (r : Option ℕ) → FoundPlace n t r → is_some r ≡ false → has_number n t ≡ false
found_not n t None f e = not_has n t f
found_not n t (Some p) f e = let z : ◌≡◌ {A = ℕ} 0 1 = cc in absurd (omega arith)

pub some_none : (k : ℕ) → ◌≡◌ {A = Option ℕ} (Some k) None → ⊥
some_none k e = let z : ◌≡◌ {A = ℕ} 0 1 = cc in omega arith

pub at_place : (n : ℕ) (t : List Row) → place_of n t < length t → (row_at t (place_of n t)).number ≡ n
at_place n t h = eqb-true (row_at t (place_of n t)).number n (first_passes (λ s. eqb s.number n) t no_row h)

pub stands_from : (n : ℕ) (t : List Row) → has_number n t ≡ true → Stands t n
stands_from n t h =
    let l = ltb-true (place_of n t) (length t) (sym (has_is n t) ∙ h) in
    (place_of n t, (l, at_place n t l))

absent_from : (n : ℕ) (t : List Row) → list_all (λ s. not (eqb s.number n)) t ≡ true → Absent n t
absent_from n t h =
    All-from_get_or (λ s. s.number ≡ n → ⊥) t no_row
    (λ k l. eqb-false (row_at t k).number n (not-true (eqb (row_at t k).number n) (every_at (λ s. not (eqb s.number n)) t k no_row l h)))

pub none_stands : (n : ℕ) (t : List Row) → has_number n t ≡ false → Stands t n → ⊥
none_stands n t h s = absent_at t n s.0 (absent_from n t (none_every (λ s. eqb s.number n) t h)) s.1.0 s.1.1

-- ---- the rows of a sheet are in their ranges, at most 128, with a number each

none_is : (f : Option ℕ) → is_none f ≡ true → f ≡ None
none_is None e = refl
none_is (Some k) e = let z : ◌≡◌ {A = ℕ} 0 1 = cc in absurd (omega arith)

ranges_at : (t : List Row) → in_ranges t ≡ true → (k : ℕ) → k < length t → InRange kept_cost (row_at t k)
ranges_at t i k h =
    right_range kept_cost (row_at t k) (none_is (wrong_field kept_cost (row_at t k)) (every_at row_in_range t k no_row h i))

apart_from : (t : List Row) → distinct t ≡ true → Apart t
apart_from [] d = tt
apart_from (r ∷ t) d =
    let p = and_parts (list_all (λ s. not (same_number r s)) t) (distinct t) d in
    (absent_from r.number t p.0, apart_from t p.1)

pub sheet_limits : (s : Sheet) → Limits (rows_of s)
sheet_limits s =
    record {
      few = omega (arith, s.rows.within, s.roomy, s.rows.items.ok.0);
      ranges = ranges_at (rows_of s) s.ranges;
      apart = λ j k l m e. same_place (rows_of s) j k (apart_from (rows_of s) s.apart) l m e;
    }

-- ---- an entry

pub accepts_from :
    (t : List Row) (r : Row) → wrong_field kept_cost r ≡ None → has_number r.number t ≡ false → length t < 128 → Accepts t r
accepts_from t r w h l = record { ranges = right_range kept_cost r w; new = none_stands r.number t h; free = l }

pub number_turns : (r s : Row) → same_number r s ≡ false → same_number s r ≡ false
number_turns r s e = ne_eqb r.number s.number (λ q. eqb-false s.number r.number e (sym q))

-- ---- a strike

-- a row is taken out exactly where its place is in the list
pub taken_within : (t : List Row) (p : ℕ) (r : Row) → Some r ≡ slice_get t p → p < length t
taken_within t p r e =
    ⊎_elim (λ h. h) (λ h. let n = nth_past t p h in let z : ◌≡◌ {A = ℕ} 0 1 = cc in absurd (omega arith)) (cases_lt p (length t))

pub taken_none : (t : List Row) (p : ℕ) → None ≡ slice_get t p → length t ≤ p
taken_none t p e =
    ⊎_elim (λ h. let n = nth_getD t p no_row h in let z : ◌≡◌ {A = ℕ} 0 1 = cc in absurd (omega arith)) (λ h. h) (cases_lt p (length t))

pub taken_is : (t : List Row) (p : ℕ) (r : Row) → p < length t → Some r ≡ slice_get t p → r ≡ row_at t p
taken_is t p r h e = let n = nth_getD t p no_row h in cc

-- taking out the row at the place of a number leaves the rows of other numbers
pub removed_is : (n : ℕ) (t : List Row) → distinct t ≡ true → place_of n t < length t → remove t (place_of n t) ≡ struck n t
removed_is n t d l = sym (struck_removed n t (place_of n t) (apart_from t d) l (at_place n t l))
