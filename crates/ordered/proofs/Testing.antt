-- Tests of the elements: at a place, and with one element more or fewer. Assumes nothing.
use Rattle.std.proofs.Common.{◌≡◌, ℕ, zero, suc, ◌+◌, ◌<◌, ◌≤◌, Bool, true, false, cond, not, ◌&&◌, ◌||◌, ltb, List, [], ◌∷◌, length, get_or, sym, refl, ◌∙◌, ⊎_elim, arith}
use Rattle.ordered.specs.Keys.{inserted_by}
use Rattle.ordered.specs.Tests.{apart, first_place}
use Rattle.std.proofs.lemmas.Bool.{and_from, and_parts, cases_lt, cond_both, le-ltb, lt-ltb, not_from_false, not-true, or_parts}
use Rattle.std.specs.List.{list_all, list_any, position_or_len, remove}

module _ {X : Type 0} (test : X → Bool) where
  -- ---- the first place

  first_within_step : (b : Bool) (p n : ℕ) → p ≤ n → cond b 0 (suc p) ≤ suc n
  first_within_step true p n h = omega arith
  first_within_step false p n h = omega arith

  pub first_within : (xs : List X) → first_place test xs ≤ length xs
  first_within [] = omega arith
  first_within (y ∷ ys) = first_within_step (test y) (first_place test ys) (length ys) (first_within ys)

  first_place_step : (b : Bool) (p : ℕ) → cond b 0 (suc p) ≡ cond (not b) (1 + p) 0
  first_place_step true p = refl
  first_place_step false p = omega arith

  -- it is what the library calls the position or the length
  pub first_place_is : (xs : List X) → first_place test xs ≡ position_or_len test xs
  first_place_is [] = refl
  first_place_is (y ∷ ys) = rw (first_place_is ys) (first_place_step (test y) (position_or_len test ys))

  first_passes_step :
      (b : Bool) (y : X) (ys : List X) (d : X) → test y ≡ b → (first_place test ys < length ys → test (get_or ys (first_place test ys) d) ≡ true) →
      cond b 0 (suc (first_place test ys)) < suc (length ys) → test (get_or (y ∷ ys) (cond b 0 (suc (first_place test ys))) d) ≡ true
  first_passes_step true y ys d e more h = e
  first_passes_step false y ys d e more h = more (omega arith)

  pub first_passes : (xs : List X) (d : X) → first_place test xs < length xs → test (get_or xs (first_place test xs) d) ≡ true
  first_passes [] d h = absurd (omega arith)
  first_passes (y ∷ ys) d h = first_passes_step (test y) y ys d refl (first_passes ys d) h

  some_is_step : (b c : Bool) (p n : ℕ) → c ≡ ltb p n → (b || c) ≡ ltb (cond b 0 (suc p)) (suc n)
  some_is_step true c p n e = sym (lt-ltb 0 (suc n) (omega arith))
  some_is_step false c p n e =
      e ∙ ⊎_elim (λ h. lt-ltb p n h ∙ sym (lt-ltb (suc p) (suc n) (omega arith)))
      (λ h. le-ltb p n h ∙ sym (le-ltb (suc p) (suc n) (omega arith))) (cases_lt p n)

  -- some element passes exactly where the first place is within the list
  pub some_is : (xs : List X) → list_any test xs ≡ ltb (first_place test xs) (length xs)
  some_is [] = refl
  some_is (y ∷ ys) = some_is_step (test y) (list_any test ys) (first_place test ys) (length ys) (some_is ys)

  -- ---- every element

  pub every_at : (xs : List X) (k : ℕ) (d : X) → k < length xs → list_all test xs ≡ true → test (get_or xs k d) ≡ true
  every_at [] k d h e = absurd (omega arith)
  every_at (y ∷ ys) zero d h e = (and_parts (test y) (list_all test ys) e).0
  every_at (y ∷ ys) (suc k) d h e = every_at ys k d (omega arith) (and_parts (test y) (list_all test ys) e).1

  every_inserted : (key : X → ℕ) (x : X) (xs : List X) → test x ≡ true → list_all test xs ≡ true → list_all test (inserted_by key x xs) ≡ true
  every_inserted key x [] a e = and_from (test x) true a refl
  every_inserted key x (y ∷ ys) a e =
      let p = and_parts (test y) (list_all test ys) e in
      cond_both (ltb (key x) (key y)) (x ∷ y ∷ ys) (y ∷ inserted_by key x ys) (λ l. list_all test l ≡ true)
      (λ _. and_from (test x) (test y && list_all test ys) a e)
      (λ _. and_from (test y) (list_all test (inserted_by key x ys)) p.0 (every_inserted key x ys a p.1))

  -- after an insertion that may be refused
  pub every_kept :
      (key : X → ℕ) (free : Bool) (x : X) (xs ys : List X) → ys ≡ cond free (inserted_by key x xs) xs → test x ≡ true → list_all test xs ≡ true →
      list_all test ys ≡ true
  every_kept key free x xs ys e a h =
      rw e (cond_both free (inserted_by key x xs) xs (λ l. list_all test l ≡ true) (λ _. every_inserted key x xs a h) (λ _. h))

  pub every_removed : (xs : List X) (i : ℕ) → list_all test xs ≡ true → list_all test (remove xs i) ≡ true
  every_removed [] zero e = refl
  every_removed [] (suc i) e = refl
  every_removed (y ∷ ys) zero e = (and_parts (test y) (list_all test ys) e).1
  every_removed (y ∷ ys) (suc i) e =
      let p = and_parts (test y) (list_all test ys) e in
      and_from (test y) (list_all test (remove ys i)) p.0 (every_removed ys i p.1)

  pub none_every : (xs : List X) → list_any test xs ≡ false → list_all (λ x. not (test x)) xs ≡ true
  none_every [] e = refl
  none_every (y ∷ ys) e =
      let p = or_parts (test y) (list_any test ys) e in
      and_from (not (test y)) (list_all (λ x. not (test x)) ys) (not_from_false (test y) p.0) (none_every ys p.1)

-- ---- no two elements

module _ {X : Type 0} (same : X → X → Bool) where
  -- every element is another than y
  abbrev others : X → List X → Bool
  others y ys = list_all (λ z. not (same y z)) ys

  apart_inserted :
      ((a b : X) → same a b ≡ false → same b a ≡ false) → (key : X → ℕ) (x : X) (xs : List X) → others x xs ≡ true → apart same xs ≡ true →
      apart same (inserted_by key x xs) ≡ true
  apart_inserted turn key x [] n e = refl
  apart_inserted turn key x (y ∷ ys) n e =
      let p = and_parts (others y ys) (apart same ys) e in
      let q = and_parts (not (same x y)) (others x ys) n in
      let other = not_from_false (same y x) (turn x y (not-true (same x y) q.0)) in
      cond_both (ltb (key x) (key y)) (x ∷ y ∷ ys) (y ∷ inserted_by key x ys) (λ l. apart same l ≡ true)
      (λ _. and_from (others x (y ∷ ys)) (apart same (y ∷ ys)) n e)
      (λ _. and_from (others y (inserted_by key x ys)) (apart same (inserted_by key x ys))
      (every_inserted (λ z. not (same y z)) key x ys other p.0) (apart_inserted turn key x ys q.1 p.1))

  -- after an insertion that may be refused
  pub apart_kept :
      ((a b : X) → same a b ≡ false → same b a ≡ false) → (key : X → ℕ) (free : Bool) (x : X) (xs ys : List X) →
      ys ≡ cond free (inserted_by key x xs) xs → list_any (same x) xs ≡ false → apart same xs ≡ true → apart same ys ≡ true
  apart_kept turn key free x xs ys e n h =
      rw e (cond_both free (inserted_by key x xs) xs (λ l. apart same l ≡ true)
      (λ _. apart_inserted turn key x xs (none_every (same x) xs n) h) (λ _. h))

  pub apart_removed : (xs : List X) (i : ℕ) → apart same xs ≡ true → apart same (remove xs i) ≡ true
  apart_removed [] zero e = refl
  apart_removed [] (suc i) e = refl
  apart_removed (y ∷ ys) zero e = (and_parts (others y ys) (apart same ys) e).1
  apart_removed (y ∷ ys) (suc i) e =
      let p = and_parts (others y ys) (apart same ys) e in
      and_from (others y (remove ys i)) (apart same (remove ys i)) (every_removed (λ z. not (same y z)) ys i p.0) (apart_removed ys i p.1)
