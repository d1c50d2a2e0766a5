-- A pair is broken exactly where a row above says so, and so by the pairs that are held in whatever order. Assumes nothing.
use Rattle.std.proofs.Common.{◌≡◌, ℕ, zero, suc, ◌<◌, Bool, true, false, ◌&&◌, eqb, ◌⊎◌, List, [], ◌∷◌, length, get_or, set, sym, refl, ap, ◌∙◌, subst, inl, inr, arith}
use Rattle.std.proofs.lemmas.List.{get_or-set_other, get_or-set_same}
use Rattle.std.proofs.lemmas.Bool.{and_from, and_parts, cases_Bool, eq-eqb, eqb-true, both_ways, or_cases, or_left, or_right}
use Rattle.std.specs.List.{ContainsAt as Has}
use Rattle.analysis.specs.Questions.{Fair, row_at}
use Rattle.analysis.specs.declared.row.Mark.{Mark}
use Rattle.analysis.specs.declared.row.Mark.TheVariants.{Above, Below}
use Rattle.analysis.specs.declared.row.Row.{Row}
use Rattle.layers.specs.Layers.{Breaks, above_has, pair_broken}
use Rattle.layers.specs.Piles.{SamePairs}
use Rattle.layers.specs.declared.pair.Pair.{Pair}

-- ---- membership

here : (p : Pair) (ps : List Pair) → Has (p ∷ ps) p
here p ps = (0, omega arith, λ d. refl)

there : (p q : Pair) (ps : List Pair) → Has ps q → Has (p ∷ ps) q
there p q ps h = (suc h.0, omega arith, λ d. h.2 d)

split : (p q : Pair) (ps : List Pair) → Has (p ∷ ps) q → (p ≡ q) ⊎ Has ps q
split p q ps (zero, l, a) = inl (a p)
split p q ps (suc k, l, a) = inr (k, omega arith, λ d. a d)

none : (q : Pair) → Has [] q → ⊥
none q (k, l, a) = omega arith

-- ---- a number above

-- some row above has the number
abbrev Found : ℕ → List Row → List Mark → Type 0
Found n t m = (k : ℕ) × ((k < length t) × ((get_or m k Below ≡ Above) × ((row_at t k).number ≡ n)))

found_more : (n : ℕ) (r : Row) (t : List Row) (x : Mark) (m : List Mark) → Found n t m → Found n (r ∷ t) (x ∷ m)
found_more n r t x m f = (suc f.0, (omega arith, (f.1.1.0, f.1.1.1)))

above_found : (n : ℕ) (t : List Row) (m : List Mark) → above_has n t m ≡ true → Found n t m
above_found n [] m e = absurd (both_ways false refl e)
above_found n (r ∷ t) [] e = absurd (both_ways false refl e)
above_found n (r ∷ t) (Above ∷ m) e =
    elim (or_cases (eqb r.number n) (above_has n t m) e) [
      | inl h ↦ (0, (omega arith, (refl, eqb-true r.number n h)))
      | inr h ↦ found_more n r t Above m (above_found n t m h)
    ]
above_found n (r ∷ t) (Below ∷ m) e = found_more n r t Below m (above_found n t m e)

found_above : (n : ℕ) (t : List Row) (m : List Mark) (k : ℕ) → k < length t → get_or m k Below ≡ Above → (row_at t k).number ≡ n →
    above_has n t m ≡ true
found_above n [] m k l a e = absurd (omega arith)
found_above n (r ∷ t) [] k l a e = let z : ◌≡◌ {A = ℕ} 0 1 = cc in absurd (omega arith)
found_above n (r ∷ t) (Above ∷ m) zero l a e = or_left (eqb r.number n) (above_has n t m) (eq-eqb r.number n e)
found_above n (r ∷ t) (Below ∷ m) zero l a e = let z : ◌≡◌ {A = ℕ} 0 1 = cc in absurd (omega arith)
found_above n (r ∷ t) (Above ∷ m) (suc k) l a e =
    or_right (eqb r.number n) (above_has n t m) (found_above n t m k (omega arith) a e)
found_above n (r ∷ t) (Below ∷ m) (suc k) l a e = found_above n t m k (omega arith) a e

-- ---- a broken pair

-- some pair that is held is broken
abbrev Broken : List Pair → ℕ → List Row → List Mark → Type 0
Broken ps n t m = (p : Pair) × (Has ps p × ((p.upper ≡ n) × (above_has p.lower t m ≡ true)))

broken_held : (ps : List Pair) (n : ℕ) (t : List Row) (m : List Mark) → pair_broken ps n t m ≡ true → Broken ps n t m
broken_held [] n t m e = absurd (both_ways false refl e)
broken_held (p ∷ ps) n t m e =
    elim (or_cases (eqb p.upper n && above_has p.lower t m) (pair_broken ps n t m) e) [
      | inl h ↦
          let b = and_parts (eqb p.upper n) (above_has p.lower t m) h in
          (p, (here p ps, (eqb-true p.upper n b.0, b.1)))
      | inr h ↦ let b = broken_held ps n t m h in (b.0, (there p b.0 ps b.1.0, b.1.1))
    ]

held_broken : (ps : List Pair) (n : ℕ) (t : List Row) (m : List Mark) (q : Pair) → Has ps q → q.upper ≡ n → above_has q.lower t m ≡ true →
    pair_broken ps n t m ≡ true
held_broken [] n t m q h u a = absurd (none q h)
held_broken (p ∷ ps) n t m q h u a =
    elim (split p q ps h) [
      | inl e ↦
          or_left (eqb p.upper n && above_has p.lower t m) (pair_broken ps n t m)
          (and_from (eqb p.upper n) (above_has p.lower t m) (eq-eqb p.upper n (ap (λ (x : Pair). x.upper) e ∙ u))
          (ap (λ (x : Pair). above_has x.lower t m) e ∙ a))
      | inr k ↦
          or_right (eqb p.upper n && above_has p.lower t m) (pair_broken ps n t m) (held_broken ps n t m q k u a)
    ]

-- the test and what it is said to mean
pub broken_breaks : (ps : List Pair) (t : List Row) (m : List Mark) (i : ℕ) → Fair t m i →
    pair_broken ps (row_at t i).number t (set m i Below) ≡ true → Breaks ps t m i
broken_breaks ps t m i q e =
    let b = broken_held ps (row_at t i).number t (set m i Below) e in
    let f = above_found b.0.lower t (set m i Below) b.1.1.1 in
    let k = f.0 in
    let ne : k ≡ i → ⊥ = λ z.
    let own = get_or-set_same m i Below Below (omega (arith, q.marked, q.within)) in
    let at : get_or (set m i Below) i Below ≡ Above = subst (λ (n : ℕ). get_or (set m i Below) n Below ≡ Above) z f.1.1.0 in
    let c : ◌≡◌ {A = ℕ} 0 1 = cc in omega arith in
    record {
      pair = b.0;
      held = b.1.0;
      upper = b.1.1.0;
      at = k;
      within = f.1.0;
      other = ne;
      above = sym (get_or-set_other m i k Below Below ne) ∙ f.1.1.0;
      lower = f.1.1.1;
    }

pub breaks_broken : (ps : List Pair) (t : List Row) (m : List Mark) (i : ℕ) → Breaks ps t m i →
    pair_broken ps (row_at t i).number t (set m i Below) ≡ true
breaks_broken ps t m i b =
    held_broken ps (row_at t i).number t (set m i Below) b.pair b.held b.upper
    (found_above b.pair.lower t (set m i Below) b.at b.within (get_or-set_other m i b.at Below Below b.other ∙ b.above) b.lower)

-- ---- the order of the pairs does not matter

one_way : (ps qs : List Pair) → ((p : Pair) → Has ps p → Has qs p) → (n : ℕ) (t : List Row) (m : List Mark) →
    pair_broken ps n t m ≡ true → pair_broken qs n t m ≡ true
one_way ps qs f n t m e =
    let b = broken_held ps n t m e in
    held_broken qs n t m b.0 (f b.0 b.1.0) b.1.1.0 b.1.1.1

same_tests : (x y : Bool) → (x ≡ true → y ≡ true) → (y ≡ true → x ≡ true) → x ≡ y
same_tests true y f g = sym (f refl)
same_tests false y f g = elim (cases_Bool y) [ inl h ↦ g h ∙ sym h | inr h ↦ sym h ]

pub broken_alike : (ps qs : List Pair) → SamePairs ps qs → (n : ℕ) (t : List Row) (m : List Mark) → pair_broken ps n t m ≡ pair_broken qs n t m
broken_alike ps qs s n t m =
    same_tests (pair_broken ps n t m) (pair_broken qs n t m) (one_way ps qs (λ p. (s p).0) n t m) (one_way qs ps (λ p. (s p).1) n t m)
