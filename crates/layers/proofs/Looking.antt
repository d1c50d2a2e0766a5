-- Looking for a number above, before the asked row and behind it, and for a broken pair. Assumes nothing.
use Rattle.std.proofs.Common.{◌≡◌, ℕ, zero, suc, ◌+◌, ◌<◌, ◌≤◌, min, false, ◌&&◌, ◌||◌, eqb, List, [], ◌∷◌, length, get_or, take, drop, set, refl, sym, ap, ◌∙◌, arith}
use Rattle.std.proofs.lemmas.List.{drop_all, drop_more}
use Rattle.std.proofs.Math.Bool.{or_assoc}
use Rattle.std.specs.Prelude.{◌==◌}
use Rattle.analysis.proofs.Parts.{behind, behind_is}
use Rattle.analysis.specs.declared.row.Mark.{Mark}
use Rattle.analysis.specs.declared.row.Mark.TheVariants.{Above, Below}
use Rattle.analysis.specs.declared.row.Row.{Row}
use Rattle.layers.specs.Layers.{above_has, pair_broken}
use Rattle.layers.specs.declared.pair.Pair.{Pair}

-- past the last row, or the last mark, no number is found
pub above_end : (n : ℕ) (t : List Row) (m : List Mark) (k : ℕ) → k ≡ min (length t) (length m) → above_has n (drop k t) (drop k m) ≡ false
above_end n [] m k e = rw (drop_all {X = Row} k [] (omega arith)) refl
above_end n (r ∷ t) [] zero e = refl
above_end n (r ∷ t) [] (suc k) e = absurd (omega arith)
above_end n (r ∷ t) (x ∷ m) zero e = absurd (omega arith)
above_end n (r ∷ t) (x ∷ m) (suc k) e = above_end n t m k (omega arith)

above_parts :
    (n : ℕ) (t : List Row) (m : List Mark) (i : ℕ) → length m ≡ length t → i < length t →
    above_has n t (set m i Below) ≡ (above_has n (take i t) (take i m) || above_has n (drop (suc i) t) (drop (suc i) m))
above_parts n [] m i s l = absurd (omega arith)
above_parts n (r ∷ t) [] i s l = absurd (omega arith)
above_parts n (r ∷ t) (x ∷ m) zero s l = refl
above_parts n (r ∷ t) (Above ∷ m) (suc i) s l =
    ap (λ b. eqb r.number n || b) (above_parts n t m i (omega arith) (omega arith))
    ∙ sym (or_assoc (eqb r.number n) (above_has n (take i t) (take i m)) (above_has n (drop (suc i) t) (drop (suc i) m)))
above_parts n (r ∷ t) (Below ∷ m) (suc i) s l = above_parts n t m i (omega arith) (omega arith)

-- it stands before the asked row or behind it
pub stands_parts :
    (n : ℕ) (t : List Row) (m : List Mark) (i : ℕ) → length m ≡ length t → i < length t →
    above_has n t (set m i Below) ≡ (above_has n (take i t) (take i m) || above_has n (behind t i) (behind m i))
stands_parts n t m i s l = rw (behind_is t i, behind_is m i) (above_parts n t m i s l)

-- read past the end of some pairs, where nothing depends on it
abbrev pub no_pair : Pair
no_pair = record { upper = 0; lower = 0 }

-- one pair more
pub broken_step : (ps : List Pair) (n : ℕ) (t : List Row) (m : List Mark) (i : ℕ) → i < length ps →
    pair_broken (drop i ps) n t m
    ≡ (((get_or ps i no_pair).upper == n && above_has (get_or ps i no_pair).lower t m) || pair_broken (drop (i + 1) ps) n t m)
broken_step ps n t m i l = rw (drop_more ps i no_pair l)

pub broken_end : (ps : List Pair) (n : ℕ) (t : List Row) (m : List Mark) (i : ℕ) → length ps ≤ i → pair_broken (drop i ps) n t m ≡ false
broken_end ps n t m i h = rw (drop_all i ps h)
