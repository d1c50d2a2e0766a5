-- Insertion by key, and what it keeps. Assumes nothing.
use Rattle.std.proofs.Common.{◌≡◌, ℕ, zero, suc, ◌<◌, ◌≤◌, Bool, true, false, cond, ◌&&◌, ltb, leb, List, [], ◌∷◌, length, refl, ap, arith}
use Rattle.ordered.specs.Keys.{Inserted, ascending, from_key, inserted_by, place_by}
use Rattle.std.specs.List.{insert, remove, AllByRecursion}
use Rattle.std.proofs.lemmas.List.{append-nil, drop_all, take_all}
use Rattle.std.proofs.lemmas.Bool.{and_from, and_parts, cond_both, le-leb, leb-true, ltb-true, ltb-false}

-- nothing is taken out past the end
pub removed_past : {X : Type 0} (xs : List X) (i : ℕ) → length xs ≤ i → remove xs i ≡ xs
removed_past xs i h = rw (take_all i xs h, drop_all (suc i) xs (omega arith)) (append-nil xs)

module _ {X : Type 0} (key : X → ℕ) where
  inserted_is_step : (b : Bool) (x y : X) (ys : List X) (p : ℕ) (zs : List X) →
      insert ys p x ≡ zs → insert (y ∷ ys) (cond b 0 (suc p)) x ≡ cond b (x ∷ y ∷ ys) (y ∷ zs)
  inserted_is_step true x y ys p zs e = refl
  inserted_is_step false x y ys p zs e = ap (λ (l : List X). y ∷ l) e

  pub inserted_is : (x : X) (xs : List X) → insert xs (place_by key (key x) xs) x ≡ inserted_by key x xs
  inserted_is x [] = refl
  inserted_is x (y ∷ ys) =
      inserted_is_step (ltb (key x) (key y)) x y ys (place_by key (key x) ys) (inserted_by key x ys) (inserted_is x ys)

  -- the order is kept
  from_inserted : (k : ℕ) (x : X) (ys : List X) → from_key key k ys ≡ true → k ≤ key x → from_key key k (inserted_by key x ys) ≡ true
  from_inserted k x [] f h = le-leb k (key x) h
  from_inserted k x (y ∷ ys) f h =
      let P : Bool → Type 0 = λ b. from_key key k (cond b (x ∷ y ∷ ys) (y ∷ inserted_by key x ys)) ≡ true in
      elim (ltb (key x) (key y)) as P [ true ↦ le-leb k (key x) h | false ↦ f ]

  ascending_step :
      (x y : X) (ys : List X) (b : Bool) → ltb (key x) (key y) ≡ b → from_key key (key y) ys ≡ true → ascending key ys ≡ true →
      ascending key (inserted_by key x ys) ≡ true → ascending key (cond b (x ∷ y ∷ ys) (y ∷ inserted_by key x ys)) ≡ true
  ascending_step x y ys true e f a s =
      and_from (leb (key x) (key y)) (from_key key (key y) ys && ascending key ys)
      (le-leb (key x) (key y) (omega (arith, ltb-true (key x) (key y) e)))
      (and_from (from_key key (key y) ys) (ascending key ys) f a)
  ascending_step x y ys false e f a s =
      and_from (from_key key (key y) (inserted_by key x ys)) (ascending key (inserted_by key x ys))
      (from_inserted (key y) x ys f (ltb-false (key x) (key y) e)) s

  pub ascending_inserted : (x : X) (xs : List X) → ascending key xs ≡ true → ascending key (inserted_by key x xs) ≡ true
  ascending_inserted x [] a = refl
  ascending_inserted x (y ∷ ys) a =
      let p = and_parts (from_key key (key y) ys) (ascending key ys) a in
      ascending_step x y ys (ltb (key x) (key y)) refl p.0 p.1 (ascending_inserted x ys p.1)

  -- a vector's insertion at the place of the key keeps the order, whether there was memory or not
  pub ascending_kept :
      (free : Bool) (x : X) (xs ys : List X) (p : ℕ) → ys ≡ cond free (insert xs p x) xs → p ≡ place_by key (key x) xs →
      ascending key xs ≡ true → ascending key ys ≡ true
  ascending_kept free x xs ys p e at a =
      rw e (cond_both free (insert xs p x) xs (λ l. ascending key l ≡ true) (λ _. rw (at, inserted_is x xs) (ascending_inserted x xs a)) (λ _. a))

  from_lower : (k l : ℕ) (ys : List X) → k ≤ l → from_key key l ys ≡ true → from_key key k ys ≡ true
  from_lower k l [] h f = refl
  from_lower k l (y ∷ ys) h f = le-leb k (key y) (omega (arith, leb-true l (key y) f))

  from_removed :
      (k : ℕ) (ys : List X) (i : ℕ) → from_key key k ys ≡ true → ascending key ys ≡ true → from_key key k (remove ys i) ≡ true
  from_removed k [] zero f a = refl
  from_removed k [] (suc i) f a = refl
  from_removed k (y ∷ ys) zero f a =
      from_lower k (key y) ys (leb-true k (key y) f) (and_parts (from_key key (key y) ys) (ascending key ys) a).0
  from_removed k (y ∷ ys) (suc i) f a = f

  pub ascending_removed : (xs : List X) (i : ℕ) → ascending key xs ≡ true → ascending key (remove xs i) ≡ true
  ascending_removed [] zero a = refl
  ascending_removed [] (suc i) a = refl
  ascending_removed (y ∷ ys) zero a = (and_parts (from_key key (key y) ys) (ascending key ys) a).1
  ascending_removed (y ∷ ys) (suc i) a =
      let p = and_parts (from_key key (key y) ys) (ascending key ys) a in
      and_from (from_key key (key y) (remove ys i)) (ascending key (remove ys i))
      (from_removed (key y) ys i p.0 p.1) (ascending_removed ys i p.1)

  -- an element goes behind those of no greater key, and before those of a greater one
  all_greater : (k : ℕ) (ys : List X) → from_key key k ys ≡ true → ascending key ys ≡ true → (j : ℕ) → j < k → AllByRecursion (λ y. j < key y) ys
  all_greater k [] f a j l = tt
  all_greater k (y ∷ ys) f a j l =
      let p = and_parts (from_key key (key y) ys) (ascending key ys) a in
      let h = leb-true k (key y) f in
      let g : j < key y = omega arith in
      (g, all_greater (key y) ys p.0 p.1 j g)

  law_step :
      (x y : X) (ys : List X) (b : Bool) → ltb (key x) (key y) ≡ b → from_key key (key y) ys ≡ true → ascending key ys ≡ true →
      Inserted key x ys (inserted_by key x ys) → Inserted key x (y ∷ ys) (cond b (x ∷ y ∷ ys) (y ∷ inserted_by key x ys))
  law_step x y ys true e f a s =
      let g = ltb-true (key x) (key y) e in
      record { front = []; back = y ∷ ys; before = refl; after = refl; no_greater = tt; greater = (g, all_greater (key y) ys f a (key x) g) }
  law_step x y ys false e f a s =
      record {
        front = y ∷ s.front;
        back = s.back;
        before = ap (λ (l : List X). y ∷ l) s.before;
        after = ap (λ (l : List X). y ∷ l) s.after;
        no_greater = (ltb-false (key x) (key y) e, s.no_greater);
        greater = s.greater;
      }

  pub inserted_law : (x : X) (xs : List X) → ascending key xs ≡ true → Inserted key x xs (inserted_by key x xs)
  inserted_law x [] a = record { front = []; back = []; before = refl; after = refl; no_greater = tt; greater = tt }
  inserted_law x (y ∷ ys) a =
      let p = and_parts (from_key key (key y) ys) (ascending key ys) a in
      law_step x y ys (ltb (key x) (key y)) refl p.0 p.1 (inserted_law x ys p.1)
