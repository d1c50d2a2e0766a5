-- The best of the members is some member's and bests each. Assumes nothing.
use Rattle.std.proofs.Common.{◌≡◌, ℕ, zero, suc, ◌<◌, ◌≤◌, min, max, ◌⊎◌, List, [], ◌∷◌, length, fold, sym, refl, ◌∙◌, inl, inr, ⊎_elim, arith}
use Rattle.analysis.specs.Questions.{row_at}
use Rattle.analysis.specs.declared.row.Row.{Row}
use Rattle.std.proofs.lemmas.Bool.{cases_lt}
use Rattle.tasks.specs.Members.{Ranged}
use Rattle.tasks.specs.Totals.{Extreme, Longest, Shortest, best, shortest_period}
use Rattle.tasks.proofs.Summing.{ranged_at}

-- f gives one of its two arguments, and the one that R puts first
record Picks (R : ℕ → ℕ → Type 0) (f : ℕ → ℕ → ℕ) : Type 0 where
  itself : (x : ℕ) → R x x
  through : (x y z : ℕ) → R x y → R y z → R x z
  one : (x y : ℕ) → (f x y ≡ x) ⊎ (f x y ≡ y)
  left : (x y : ℕ) → R (f x y) x
  right : (x y : ℕ) → R (f x y) y

module _ (R : ℕ → ℕ → Type 0) (f : ℕ → ℕ → ℕ) (value : Row → ℕ) (p : Picks R f) where
  abbrev from : ℕ → List Row → ℕ
  from a rs = fold (λ b s. f b (value s)) a rs

  -- the value at some place
  abbrev SomeAt : List Row → ℕ → Type 0
  SomeAt rs x = (k : ℕ) × ((k < length rs) × (value (row_at rs k) ≡ x))

  witness : (a : ℕ) (rs : List Row) → (from a rs ≡ a) ⊎ SomeAt rs (from a rs)
  witness a [] = inl refl
  witness a (s ∷ rs) =
      let x = from (f a (value s)) rs in
      ⊎_elim (λ e. ⊎_elim (λ l. inl (e ∙ l)) (λ r. inr (0, (omega arith, sym (e ∙ r)))) (p.one a (value s)))
      (λ w. inr (suc w.0, (omega (arith, w.1.0), w.1.1))) (witness (f a (value s)) rs)

  bests_start : (a : ℕ) (rs : List Row) → R (from a rs) a
  bests_start a [] = p.itself a
  bests_start a (s ∷ rs) = p.through (from (f a (value s)) rs) (f a (value s)) a (bests_start (f a (value s)) rs) (p.left a (value s))

  bests_each : (a : ℕ) (rs : List Row) (k : ℕ) → k < length rs → R (from a rs) (value (row_at rs k))
  bests_each a [] k h = absurd (omega arith)
  bests_each a (s ∷ rs) zero h =
      p.through (from (f a (value s)) rs) (f a (value s)) (value s) (bests_start (f a (value s)) rs) (p.right a (value s))
  bests_each a (s ∷ rs) (suc k) h = bests_each (f a (value s)) rs k (omega arith)

  both : (r : Row) (rs : List Row) (k : ℕ) → k < suc (length rs) → R (from (value r) rs) (value (row_at (r ∷ rs) k))
  both r rs zero h = bests_start (value r) rs
  both r rs (suc k) h = bests_each (value r) rs k (omega arith)

  extreme : (ms : List Row) → 1 ≤ length ms → Extreme R value ms (best f value ms)
  extreme [] h = absurd (omega arith)
  extreme (r ∷ rs) h =
      let some : SomeAt (r ∷ rs) (from (value r) rs) =
      ⊎_elim (λ e. (0, (omega arith, sym e))) (λ w. (suc w.0, (omega (arith, w.1.0), w.1.1))) (witness (value r) rs) in
      record { of = some.0; within = some.1.0; is = some.1.1; against = both r rs }

min_picks : Picks (λ x y. x ≤ y) min
min_picks =
    record {
      itself = λ x. omega arith;
      through = λ x y z a b. omega arith;
      one = λ x y. ⊎_elim (λ h. inl (omega arith)) (λ h. inr (omega arith)) (cases_lt x y);
      left = λ x y. omega arith;
      right = λ x y. omega arith;
    }

max_picks : Picks (λ x y. y ≤ x) max
max_picks =
    record {
      itself = λ x. omega arith;
      through = λ x y z a b. omega arith;
      one = λ x y. ⊎_elim (λ h. inr (omega arith)) (λ h. inl (omega arith)) (cases_lt x y);
      left = λ x y. omega arith;
      right = λ x y. omega arith;
    }

pub is_shortest : (value : Row → ℕ) (ms : List Row) → 1 ≤ length ms → Shortest value ms (best min value ms)
is_shortest value ms h = extreme (λ x y. x ≤ y) min value min_picks ms h

pub is_longest : (value : Row → ℕ) (ms : List Row) → 1 ≤ length ms → Longest value ms (best max value ms)
is_longest value ms h = extreme (λ x y. y ≤ x) max value max_picks ms h

-- the shortest period of members in their ranges is not 0
pub period_least : (ms : List Row) → Ranged ms → 1 ≤ shortest_period ms
period_least ms r =
    let e = is_shortest (λ s. s.period) ms r.some in
    omega (arith, (ranged_at ms e.of r e.within).period_least, e.is)
