-- The layer of pairs keeps the four laws. Assumes nothing.
use Rattle.std.specs.Prelude.{◌≡◌, ℕ, zero, suc, false, ◌&&◌, ◌||◌, List, [], ◌∷◌, ◌==◌, slice_index_or, slice_set, refl}
use Rattle.std.proofs.Common.{sym, ap, ◌∙◌, inl, inr, arith}
use Rattle.std.specs.List.{remove}
use Rattle.std.proofs.lemmas.List.{get_or-set_other, set_comm, set-set}
use Rattle.std.proofs.lemmas.Bool.{cases_Bool, cond-true, cond-false, or_parts, or_from, and_left, and_right, and_cases}
use Rattle.analysis.specs.Laws.{Bounds, Lawful, OnTimeBy, OwnMark, Promotion, Withdrawal, place_after}
use Rattle.layers.specs.Layers.{above_has, pair_broken, with_pairs}
use Rattle.analysis.specs.Questions.{Meaning, row_at}
use Rattle.analysis.specs.declared.row.Mark.{Mark}
use Rattle.analysis.specs.declared.row.Mark.TheVariants.{Above, Below}
use Rattle.analysis.specs.declared.row.Row.{Row}
use Rattle.analysis.specs.declared.row.Verdict.TheVariants.{OnTime, Late}
use Rattle.layers.specs.declared.pair.Pair.{Pair}
use Rattle.analysis.specs.Lemmas.Eased.{row_removed, set_removed}

has_promoted : (n : ℕ) (t : List Row) (m : List Mark) (k : ℕ) → above_has n t m ≡ false → above_has n t (slice_set m k Below) ≡ false
has_promoted n [] m k e = refl
has_promoted n (r ∷ t) [] k e = refl
has_promoted n (r ∷ t) (Above ∷ m) zero e = (or_parts (r.number == n) (above_has n t m) e).1
has_promoted n (r ∷ t) (Below ∷ m) zero e = e
has_promoted n (r ∷ t) (Above ∷ m) (suc k) e =
    let s = or_parts (r.number == n) (above_has n t m) e in
    or_from (r.number == n) (above_has n t (slice_set m k Below)) s.0 (has_promoted n t m k s.1)
has_promoted n (r ∷ t) (Below ∷ m) (suc k) e = has_promoted n t m k e

has_removed : (n : ℕ) (t : List Row) (m : List Mark) (k : ℕ) → slice_index_or m k Above ≡ Below →
    above_has n (remove t k) (remove m k) ≡ above_has n t m
has_removed n [] m zero e = refl
has_removed n [] m (suc k) e = refl
has_removed n (r ∷ t) [] k e = let z : ◌≡◌ {A = ℕ} 0 1 = cc in absurd (omega arith)
has_removed n (r ∷ t) (Above ∷ m) zero e = let z : ◌≡◌ {A = ℕ} 0 1 = cc in absurd (omega arith)
has_removed n (r ∷ t) (Below ∷ m) zero e = refl
has_removed n (r ∷ t) (Above ∷ m) (suc k) e = ap (λ b. (r.number == n) || b) (has_removed n t m k e)
has_removed n (r ∷ t) (Below ∷ m) (suc k) e = has_removed n t m k e

broken_promoted : (ps : List Pair) (n : ℕ) (t : List Row) (m : List Mark) (k : ℕ) → pair_broken ps n t m ≡ false →
    pair_broken ps n t (slice_set m k Below) ≡ false
broken_promoted [] n t m k e = refl
broken_promoted (p ∷ ps) n t m k e =
    let s = or_parts (p.upper == n && above_has p.lower t m) (pair_broken ps n t m) e in
    or_from (p.upper == n && above_has p.lower t (slice_set m k Below)) (pair_broken ps n t (slice_set m k Below))
    (elim (and_cases (p.upper == n) (above_has p.lower t m) s.0) [
      | inl h ↦ and_left (p.upper == n) (above_has p.lower t (slice_set m k Below)) h
      | inr h ↦ and_right (p.upper == n) (above_has p.lower t (slice_set m k Below)) (has_promoted p.lower t m k h)
    ])
    (broken_promoted ps n t m k s.1)

broken_removed : (ps : List Pair) (n : ℕ) (t : List Row) (m : List Mark) (k : ℕ) → slice_index_or m k Above ≡ Below →
    pair_broken ps n (remove t k) (remove m k) ≡ pair_broken ps n t m
broken_removed [] n t m k e = refl
broken_removed (p ∷ ps) n t m k e = rw (has_removed p.lower t m k e, broken_removed ps n t m k e)

module _ (ps : List Pair) (v : Meaning) where
  unbroken : (t : List Row) (m : List Mark) (i w : ℕ) → with_pairs ps v t m i ≡ OnTime w →
      (pair_broken ps (row_at t i).number t (slice_set m i Below) ≡ false) × (v t m i ≡ OnTime w)
  unbroken t m i w e =
      let b = pair_broken ps (row_at t i).number t (slice_set m i Below) in
      elim (cases_Bool b) [
        | inl h ↦ let k = cond-true b Late (v t m i) h in let z : ◌≡◌ {A = ℕ} 0 1 = cc in absurd (omega arith)
        | inr h ↦ (h, sym (cond-false b Late (v t m i) h) ∙ e)
      ]

  kept : (t : List Row) (m : List Mark) (i w : ℕ) → pair_broken ps (row_at t i).number t (slice_set m i Below) ≡ false →
      OnTimeBy w (v t m i) → OnTimeBy w (with_pairs ps v t m i)
  kept t m i w h o =
      (o.0, (cond-false (pair_broken ps (row_at t i).number t (slice_set m i Below)) Late (v t m i) h ∙ o.1.0, o.1.1))

  pub pairs_bounds : Bounds v → Bounds (with_pairs ps v)
  pairs_bounds law t m i w q e = law t m i w q (unbroken t m i w e).1

  pub pairs_promotion : Promotion v → Promotion (with_pairs ps v)
  pairs_promotion law t m i k w q l ne a e =
      let s = unbroken t m i w e in
      kept t (slice_set m k Below) i w
      (rw (set_comm m k i Below Below ne) (broken_promoted ps (row_at t i).number t (slice_set m i Below) k s.0))
      (law t m i k w q l ne a s.1)

  pub pairs_withdrawal : Withdrawal v → Withdrawal (with_pairs ps v)
  pairs_withdrawal law t m i k w q l ne a e =
      let s = unbroken t m i w e in
      kept (remove t k) (remove m k) (place_after k i) w
      (rw (row_removed k i ne t l, set_removed k i ne m Below)
      (broken_removed ps (row_at t i).number t (slice_set m i Below) k (get_or-set_other m i k Below Above ne ∙ a) ∙ s.0))
      (law t m i k w q l ne a s.1)

  pub pairs_own : OwnMark v → OwnMark (with_pairs ps v)
  pairs_own law t m i x q = rw (set-set m i x Below, law t m i x q)

  pub pairs_lawful : Lawful v → Lawful (with_pairs ps v)
  pairs_lawful l =
      record { bounds = pairs_bounds l.bounds; promotion = pairs_promotion l.promotion; withdrawal = pairs_withdrawal l.withdrawal; own = pairs_own l.own }
