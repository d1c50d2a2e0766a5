-- Activations and demands: in the window, in the marks, and row by row. Assumes nothing.
use Rattle.std.specs.Prelude.{◌≡◌, ℕ, zero, suc, ◌+◌, ◌-◌, ◌*◌, ◌<◌, ◌≤◌, List, [], ◌∷◌, length, slice_index_or, slice_set, refl}
use Rattle.std.proofs.Common.{ap, inl, inr, mul-le-mul_right, mul-le-mul_left, div-mul-le_self, add-mul, one-mul, mul-one, arith}
use Rattle.std.proofs.Math.Nat.{div-zero}
use Rattle.std.specs.List.{remove}
use Rattle.std.proofs.lemmas.Bool.{cases_lt}
use Rattle.std.proofs.lemmas.Nat.{div_below, le-div}
use Rattle.analysis.specs.Questions.{row_at}
use Rattle.analysis.specs.Responses.{RoundedUp, activations, demand, demand_above, section_below}
use Rattle.analysis.specs.declared.row.Mark.{Mark}
use Rattle.analysis.specs.declared.row.Mark.TheVariants.{Above, Below}
use Rattle.analysis.specs.declared.row.Row.{Row}

pub activations_mono : (a b p : ℕ) → a ≤ b → activations a p ≤ activations b p
activations_mono a b zero h = omega (arith, div-zero (a + (0 - 1)), div-zero (b + (0 - 1)))
activations_mono a b (suc p) h =
    le-div (activations a (suc p)) (b + (suc p - 1)) (suc p) (omega arith)
    (omega (arith, div-mul-le_self (a + (suc p - 1)) (suc p)))

-- a quotient rounded up
pub rounded_up : RoundedUp
rounded_up w p h =
    let q = activations w p in
    let low = div-mul-le_self (w + (p - 1)) p in
    let high : w + (p - 1) < (q + 1) * p = elim (cases_lt (w + (p - 1)) ((q + 1) * p)) [
      | inl l ↦ l
      | inr l ↦ let z = le-div (q + 1) (w + (p - 1)) p h l in absurd (omega arith)
    ] in
    (omega (arith, add-mul q 1 p, one-mul p), omega arith)

-- at least one where the window is not empty
pub activations_some : (w p : ℕ) → 1 ≤ w → 1 ≤ p → 1 ≤ activations w p
activations_some w p a b = le-div 1 (w + (p - 1)) p b (omega (arith, one-mul p))

-- at most as many as the window has ticks
pub activations_most : (w p : ℕ) → 1 ≤ p → activations w p ≤ w
activations_most w p b =
    let h : activations w p < w + 1 = div_below (w + (p - 1)) p (w + 1) b (omega (arith, add-mul w 1 p, mul-le-mul_left w b, one-mul p, mul-one w)) in
    omega arith

pub demand_mono : (x : Mark) (r : Row) (a b : ℕ) → a ≤ b → demand x r a ≤ demand x r b
demand_mono Above r a b h = mul-le-mul_right r.cost (activations_mono a b r.period h)
demand_mono Below r a b h = omega arith

pub demands_mono : (t : List Row) (m : List Mark) (a b : ℕ) → a ≤ b → demand_above t m a ≤ demand_above t m b
demands_mono [] m a b h = omega arith
demands_mono (r ∷ t) [] a b h = omega arith
demands_mono (r ∷ t) (x ∷ m) a b h = omega (arith, demand_mono x r a b h, demands_mono t m a b h)

-- a row that goes below adds at least its cost no more
pub demands_promoted : (t : List Row) (m : List Mark) (k w : ℕ) → k < length t → 1 ≤ w → 1 ≤ (row_at t k).period →
    slice_index_or m k Below ≡ Above → demand_above t (slice_set m k Below) w + (row_at t k).cost ≤ demand_above t m w
demands_promoted [] m k w l a b e = absurd (omega arith)
demands_promoted (r ∷ t) [] k w l a b e = let z : ◌≡◌ {A = ℕ} 0 1 = cc in absurd (omega arith)
demands_promoted (r ∷ t) (x ∷ m) zero w l a b e =
    rw e (omega (arith, mul-le-mul_right r.cost (activations_some w r.period a b), one-mul r.cost))
demands_promoted (r ∷ t) (x ∷ m) (suc k) w l a b e =
    omega (arith, demands_promoted t m k w (omega arith) a b e)

-- a row that is below adds nothing
pub demands_removed : (t : List Row) (m : List Mark) (k w : ℕ) → slice_index_or m k Above ≡ Below →
    demand_above (remove t k) (remove m k) w ≡ demand_above t m w
demands_removed [] [] zero w e = refl
demands_removed [] [] (suc k) w e = refl
demands_removed [] (x ∷ m) zero w e = refl
demands_removed [] (x ∷ m) (suc k) w e = refl
demands_removed (r ∷ t) [] k w e = let z : ◌≡◌ {A = ℕ} 0 1 = cc in absurd (omega arith)
demands_removed (r ∷ t) (x ∷ m) zero w e = rw e (omega arith)
demands_removed (r ∷ t) (x ∷ m) (suc k) w e = ap (λ n. demand x r w + n) (demands_removed t m k w e)

-- the longest section, likewise
pub sections_promoted : (t : List Row) (m : List Mark) (k : ℕ) →
    section_below t (slice_set m k Below) ≤ section_below t m + (row_at t k).section
sections_promoted [] m k = omega arith
sections_promoted (r ∷ t) [] k = omega arith
sections_promoted (r ∷ t) (x ∷ m) zero = omega arith
sections_promoted (r ∷ t) (x ∷ m) (suc k) = omega (arith, sections_promoted t m k)

pub sections_removed : (t : List Row) (m : List Mark) (k : ℕ) → slice_index_or m k Above ≡ Below →
    section_below (remove t k) (remove m k) ≤ section_below t m
sections_removed [] [] zero e = omega arith
sections_removed [] [] (suc k) e = omega arith
sections_removed [] (x ∷ m) zero e = omega arith
sections_removed [] (x ∷ m) (suc k) e = omega arith
sections_removed (r ∷ t) [] k e = let z : ◌≡◌ {A = ℕ} 0 1 = cc in absurd (omega arith)
sections_removed (r ∷ t) (x ∷ m) zero e = omega arith
sections_removed (r ∷ t) (x ∷ m) (suc k) e = omega (arith, sections_removed t m k e)

-- a mark written before or after another place is taken out
pub set_removed_above : (m : List Mark) (k j : ℕ) (x : Mark) → k ≤ j → slice_set (remove m k) j x ≡ remove (slice_set m (suc j) x) k
set_removed_above [] zero j x h = refl
set_removed_above [] (suc k) j x h = refl
set_removed_above (y ∷ m) zero j x h = refl
set_removed_above (y ∷ m) (suc k) zero x h = absurd (omega arith)
set_removed_above (y ∷ m) (suc k) (suc j) x h = ap (λ n. y ∷ n) (set_removed_above m k j x (omega arith))

pub set_removed_below : (m : List Mark) (k i : ℕ) (x : Mark) → i < k → slice_set (remove m k) i x ≡ remove (slice_set m i x) k
set_removed_below m zero i x h = absurd (omega arith)
set_removed_below [] (suc k) i x h = refl
set_removed_below (y ∷ m) (suc k) zero x h = refl
set_removed_below (y ∷ m) (suc k) (suc i) x h = ap (λ n. y ∷ n) (set_removed_below m k i x (omega arith))
