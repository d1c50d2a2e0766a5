-- The tables of a course: few rows, in range, with numbers of their own, in ascending deadline.
use Rattle.std.proofs.Common.{◌≡◌, ℕ, suc, ◌<◌, ◌≤◌, true, false, cond, eqb, ltb, List, [], ◌∷◌, length, sym, refl, ap, arith}
use Rattle.std.specs.List.{AllByRecursion}
use Rattle.std.proofs.ByRecursion.{All-get_or, All-from_get_or, All-weaker}
use Rattle.std.proofs.lemmas.Bool.Decides.{nat_tests}
use Rattle.std.proofs.lemmas.Bool.{eqb-false, cond_both, ltb-false, ltb-true}
use Rattle.analysis.specs.Questions.{Fair, row_at, no_row}
use Rattle.analysis.specs.Ranges.{InRange, kept_cost, asked_cost}
use Rattle.analysis.specs.declared.row.Mark.{Mark}
use Rattle.analysis.specs.declared.row.Row.{Row}
use Rattle.analysis.proofs.Checks.{right_range}
use Rattle.mapping.specs.Courses.{Accepts, Limits, entered, struck}
use Rattle.mapping.specs.Orders.{Stands}
use Rattle.mapping.proofs.Pairs.{Pairs, all_both, same_index}

-- no row has the number
abbrev pub Absent : ℕ → List Row → Type 0
Absent n t = AllByRecursion (λ s. s.number ≡ n → ⊥) t

-- each row has a number of its own
abbrev pub Apart : List Row → Type 0
Apart t = Pairs (λ r s. s.number ≡ r.number → ⊥) t

-- no row has a later deadline than one after it
abbrev pub Ascending : List Row → Type 0
Ascending t = Pairs (λ r s. r.deadline ≤ s.deadline) t

pub record Sound (t : List Row) : Type 0 where
  pub few : length t ≤ 128
  pub ranges : AllByRecursion (InRange kept_cost) t
  pub apart : Apart t
  pub ascending : Ascending t

-- ---- questions about such a table are fair

pub wider : (r : Row) → InRange kept_cost r → InRange asked_cost r
wider r h = right_range asked_cost r (grind (arith, nat_tests))

pub sound_fair : (t : List Row) (m : List Mark) (i : ℕ) → Sound t → length m ≡ length t → i < length t → Fair t m i
sound_fair t m i s e l =
    record {
      few = s.few;
      marked = e;
      within = l;
      ranges = λ k h. wider (row_at t k) (All-get_or (InRange kept_cost) t k no_row h s.ranges);
    }

-- ---- numbers and places

pub absent : (t : List Row) (n : ℕ) → (Stands t n → ⊥) → Absent n t
absent t n h = All-from_get_or (λ s. s.number ≡ n → ⊥) t no_row (λ i l e. h (i, (l, e)))

pub absent_at : (t : List Row) (n k : ℕ) → Absent n t → k < length t → (row_at t k).number ≡ n → ⊥
absent_at t n k a l e = All-get_or (λ s. s.number ≡ n → ⊥) t k no_row l a e

pub same_place :
    (t : List Row) (j k : ℕ) → Apart t → j < length t → k < length t → (row_at t j).number ≡ (row_at t k).number → j ≡ k
same_place t j k a l h e = same_index (λ (r : Row). r.number) t no_row j k a l h e

pub sound_limits : (t : List Row) → Sound t → Limits t
sound_limits t s =
    record {
      few = s.few;
      ranges = λ i l. All-get_or (InRange kept_cost) t i no_row l s.ranges;
      apart = λ i j l k e. same_place t i j s.apart l k e;
    }

-- ---- the table of a new sheet

pub sound_new : Sound []
sound_new = record { few = omega arith; ranges = tt; apart = tt; ascending = tt }

-- ---- after an entry

pub all_entered : (P : Row → Type 0) (r : Row) (t : List Row) → P r → AllByRecursion P t → AllByRecursion P (entered r t)
all_entered P r [] p h = (p, tt)
all_entered P r (s ∷ t) p h =
    elim (ltb r.deadline s.deadline) as (λ b. AllByRecursion P (cond b (r ∷ s ∷ t) (s ∷ entered r t))) [
      | true ↦ (p, h)
      | false ↦ (h.0, all_entered P r t p h.1)
    ]

length_entered : (r : Row) (t : List Row) → length (entered r t) ≡ suc (length t)
length_entered r [] = refl
length_entered r (s ∷ t) =
    elim (ltb r.deadline s.deadline) as (λ b. length (cond b (r ∷ s ∷ t) (s ∷ entered r t)) ≡ suc (suc (length t))) [
      | true ↦ refl
      | false ↦ ap suc (length_entered r t)
    ]

-- the new row before those of a later deadline and after the others
pub pairs_entered :
    (R : Row → Row → Type 0) (r : Row) (t : List Row) → Ascending t →
    AllByRecursion (λ s. (r.deadline < s.deadline → R r s) × (s.deadline ≤ r.deadline → R s r)) t → Pairs R t → Pairs R (entered r t)
pairs_entered R r [] a f h = (tt, tt)
pairs_entered R r (s ∷ t) a f h =
    cond_both (ltb r.deadline s.deadline) (r ∷ s ∷ t) (s ∷ entered r t) (Pairs R)
    (λ e.
    let l : r.deadline < s.deadline = ltb-true r.deadline s.deadline e in
    let later : AllByRecursion (λ x. s.deadline ≤ x.deadline) t = a.0 in (
      (
        f.0.0 l,
        all_both (λ x. s.deadline ≤ x.deadline) (λ x. (r.deadline < x.deadline → R r x) × (x.deadline ≤ r.deadline → R x r)) (R r)
            (λ x p q. q.0 (omega arith))
            t
            later
            f.1,
      ),
      h,
    ))
    (λ e.
    let l : s.deadline ≤ r.deadline = ltb-false r.deadline s.deadline e in
    (all_entered (R s) r t (f.0.1 l) h.0, pairs_entered R r t a.1 f.1 h.1))

pub sound_entered : (t : List Row) (r : Row) → Sound t → Accepts t r → Sound (entered r t)
sound_entered t r s a =
    record {
      few = omega (arith, length_entered r t, a.free);
      ranges = all_entered (InRange kept_cost) r t a.ranges s.ranges;
      apart = pairs_entered (λ x y. y.number ≡ x.number → ⊥) r t s.ascending
          (All-weaker (λ x. x.number ≡ r.number → ⊥)
          (λ x. (r.deadline < x.deadline → x.number ≡ r.number → ⊥) × (x.deadline ≤ r.deadline → r.number ≡ x.number → ⊥))
          (λ x ne. (λ l. ne, λ l e. ne (sym e)))
          t
          (absent t r.number a.new))
          s.apart;
      ascending = pairs_entered (λ x y. x.deadline ≤ y.deadline) r t s.ascending
          (All-from_get_or (λ x. (r.deadline < x.deadline → r.deadline ≤ x.deadline) × (x.deadline ≤ r.deadline → x.deadline ≤ r.deadline)) t no_row
          (λ i l. (λ k. omega arith, λ k. k)))
          s.ascending;
    }

-- ---- after a strike

pub all_struck : (P : Row → Type 0) (n : ℕ) (t : List Row) → AllByRecursion (λ s. (s.number ≡ n → ⊥) → P s) t → AllByRecursion P (struck n t)
all_struck P n [] h = tt
all_struck P n (s ∷ t) h =
    cond_both (eqb s.number n) (struck n t) (s ∷ struck n t) (AllByRecursion P) (λ e. all_struck P n t h.1)
    (λ e. (h.0 (eqb-false s.number n e), all_struck P n t h.1))

length_struck : (n : ℕ) (t : List Row) → length (struck n t) ≤ length t
length_struck n [] = omega arith
length_struck n (s ∷ t) =
    let h : length (struck n t) ≤ length t = length_struck n t in
    elim (eqb s.number n) as (λ b. length (cond b (struck n t) (s ∷ struck n t)) ≤ suc (length t)) [
      | true ↦ omega arith
      | false ↦ omega arith
    ]

pub pairs_struck :
    (R S : Row → Row → Type 0) (n : ℕ) → ((r s : Row) → (r.number ≡ n → ⊥) → (s.number ≡ n → ⊥) → R r s → S r s) →
    (t : List Row) → Pairs R t → Pairs S (struck n t)
pairs_struck R S n f [] h = tt
pairs_struck R S n f (s ∷ t) h =
    cond_both (eqb s.number n) (struck n t) (s ∷ struck n t) (Pairs S) (λ e. pairs_struck R S n f t h.1)
    (λ e. (
      all_struck (S s) n t
          (All-weaker (R s) (λ x. (x.number ≡ n → ⊥) → S s x) (λ x p ne. f s x (eqb-false s.number n e) ne p) t h.0),
      pairs_struck R S n f t h.1,
    ))

pub sound_struck : (t : List Row) (n : ℕ) → Sound t → Sound (struck n t)
sound_struck t n s =
    record {
      few = omega (arith, length_struck n t, s.few);
      ranges = all_struck (InRange kept_cost) n t (All-weaker (InRange kept_cost) (λ x. (x.number ≡ n → ⊥) → InRange kept_cost x) (λ x p ne. p) t s.ranges);
      apart = pairs_struck (λ x y. y.number ≡ x.number → ⊥) (λ x y. y.number ≡ x.number → ⊥) n (λ x y p q h. h) t s.apart;
      ascending = pairs_struck (λ x y. x.deadline ≤ y.deadline) (λ x y. x.deadline ≤ y.deadline) n (λ x y p q h. h) t s.ascending;
    }
