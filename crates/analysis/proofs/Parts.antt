-- The rows before the asked one and the rows behind it. Assumes nothing.
use Rattle.std.proofs.Common.{◌≡◌, ℕ, zero, suc, ◌+◌, ◌-◌, ◌<◌, min, max, List, [], ◌∷◌, length, take, drop, refl, add-one, arith}
use Rattle.std.proofs.lemmas.List.{drop_all, take_all, length-drop}
use Rattle.analysis.specs.Responses.{blocking, demand_above, interference, section_below}
use Rattle.analysis.specs.declared.row.Mark.{Mark}
use Rattle.analysis.specs.declared.row.Row.{Row}

-- past the last row, or the last mark, nothing is asked
pub demands_end : (t : List Row) (m : List Mark) (n w : ℕ) → n ≡ min (length t) (length m) → demand_above (drop n t) (drop n m) w ≡ 0
demands_end [] m n w e = rw (drop_all {X = Row} n [] (omega arith)) refl
demands_end (r ∷ t) [] zero w e = refl
demands_end (r ∷ t) [] (suc n) w e = absurd (omega arith)
demands_end (r ∷ t) (x ∷ m) zero w e = absurd (omega arith)
demands_end (r ∷ t) (x ∷ m) (suc n) w e = demands_end t m n w (omega arith)

pub sections_end : (t : List Row) (m : List Mark) (n : ℕ) → n ≡ min (length t) (length m) → section_below (drop n t) (drop n m) ≡ 0
sections_end [] m n e = rw (drop_all {X = Row} n [] (omega arith)) refl
sections_end (r ∷ t) [] zero e = refl
sections_end (r ∷ t) [] (suc n) e = absurd (omega arith)
sections_end (r ∷ t) (x ∷ m) zero e = absurd (omega arith)
sections_end (r ∷ t) (x ∷ m) (suc n) e = sections_end t m n (omega arith)

-- the elements behind a place, as a slice has them
abbrev pub behind : {X : Type 0} → List X → ℕ → List X
behind xs i = take (length xs - (i + 1)) (drop (i + 1) xs)

pub behind_is : {X : Type 0} (xs : List X) (i : ℕ) → behind xs i ≡ drop (suc i) xs
behind_is xs i = rw (add-one) (take_all (length xs - suc i) (drop (suc i) xs) (omega (arith, length-drop (suc i) xs)))

demands_parts :
    (t : List Row) (m : List Mark) (i w : ℕ) → length m ≡ length t → i < length t →
    interference t m i w ≡ demand_above (take i t) (take i m) w + demand_above (drop (suc i) t) (drop (suc i) m) w
demands_parts [] m i w s l = absurd (omega arith)
demands_parts (r ∷ t) [] i w s l = absurd (omega arith)
demands_parts (r ∷ t) (x ∷ m) zero w s l = refl
demands_parts (r ∷ t) (x ∷ m) (suc i) w s l = omega (arith, demands_parts t m i w (omega arith) (omega arith))

sections_parts :
    (t : List Row) (m : List Mark) (i : ℕ) → length m ≡ length t → i < length t →
    blocking t m i ≡ max (section_below (take i t) (take i m)) (section_below (drop (suc i) t) (drop (suc i) m))
sections_parts [] m i s l = absurd (omega arith)
sections_parts (r ∷ t) [] i s l = absurd (omega arith)
sections_parts (r ∷ t) (x ∷ m) zero s l = refl
sections_parts (r ∷ t) (x ∷ m) (suc i) s l = omega (arith, sections_parts t m i (omega arith) (omega arith))

-- the interference is what both parts ask
pub interference_parts :
    (t : List Row) (m : List Mark) (i w : ℕ) → length m ≡ length t → i < length t →
    interference t m i w ≡ demand_above (take i t) (take i m) w + demand_above (behind t i) (behind m i) w
interference_parts t m i w s l = rw (behind_is t i, behind_is m i) (demands_parts t m i w s l)

-- the blocking is the longer section of both
pub blocking_parts :
    (t : List Row) (m : List Mark) (i : ℕ) → length m ≡ length t → i < length t →
    blocking t m i ≡ max (section_below (take i t) (take i m)) (section_below (behind t i) (behind m i))
blocking_parts t m i s l = rw (behind_is t i, behind_is m i) (sections_parts t m i s l)
