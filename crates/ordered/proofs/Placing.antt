-- A binary search by key over an ascending list gives the place of a key.
use Rattle.std.proofs.Common.{◌≡◌, ℕ, zero, suc, ◌<◌, ◌≤◌, true, false, cond, ltb, leb, List, [], ◌∷◌, length, get_or, refl, ap, arith}
use Rattle.ordered.specs.Keys.{ascending, from_key, place_by}
use Rattle.std.specs.List.Sorted.{IsPartitionPoint, IsPartitionedBy}
use Rattle.std.proofs.lemmas.Bool.{and_parts, le-leb, leb-true, leb-false, lt-ltb, le-ltb}

module _ {X : Type 0} (key : X → ℕ) where
  -- no later element has a smaller key
  from_at : (k : ℕ) (ys : List X) → from_key key k ys ≡ true → ascending key ys ≡ true → (j : ℕ) (d : X) → j < length ys → k ≤ key (get_or ys j d)
  from_at k [] f a j d l = absurd (omega arith)
  from_at k (y ∷ ys) f a zero d l = leb-true k (key y) f
  from_at k (y ∷ ys) f a (suc j) d l =
      let p = and_parts (from_key key (key y) ys) (ascending key ys) a in
      omega (arith, leb-true k (key y) f, from_at (key y) ys p.0 p.1 j d (omega arith))

  ascending_at : (xs : List X) → ascending key xs ≡ true → (i j : ℕ) (d : X) → i ≤ j → j < length xs → key (get_or xs i d) ≤ key (get_or xs j d)
  ascending_at [] a i j d h l = absurd (omega arith)
  ascending_at (y ∷ ys) a zero zero d h l = omega arith
  ascending_at (y ∷ ys) a zero (suc j) d h l =
      let p = and_parts (from_key key (key y) ys) (ascending key ys) a in from_at (key y) ys p.0 p.1 j d (omega arith)
  ascending_at (y ∷ ys) a (suc i) zero d h l = absurd (omega arith)
  ascending_at (y ∷ ys) a (suc i) (suc j) d h l =
      ascending_at ys (and_parts (from_key key (key y) ys) (ascending key ys) a).1 i j d (omega arith) (omega arith)

  -- the elements of no greater key come first
  pub parted : (k : ℕ) (xs : List X) → ascending key xs ≡ true → IsPartitionedBy (λ y. leb (key y) k) xs
  parted k xs a i j d h l e =
      let m = ascending_at xs a i j d h l in
      le-leb (key (get_or xs i d)) k (omega (arith, leb-true (key (get_or xs j d)) k e))

  step : (k : ℕ) (y : X) (p i : ℕ) → key y ≤ k → p ≡ i → cond (ltb k (key y)) 0 (suc p) ≡ suc i
  step k y p i h e = rw (le-ltb k (key y) h) (ap suc e)

  -- and the place of the key is behind them
  pub place_is : (k : ℕ) (xs : List X) (i : ℕ) → i ≤ length xs → IsPartitionPoint (λ y. leb (key y) k ≡ true) (λ y. leb (key y) k ≡ false) xs i → i ≡ place_by key k xs
  place_is k [] i b h = omega arith
  place_is k (y ∷ ys) zero b h = rw (lt-ltb k (key y) (leb-false (key y) k (h.1 0 y (omega arith) (omega arith)))) refl
  place_is k (y ∷ ys) (suc i) b h =
      let s = place_is k ys i (omega arith) (
        (λ j d l u. h.0 (suc j) d (omega arith) (omega arith)),
        (λ j d l u. h.1 (suc j) d (omega arith) (omega arith)),
      ) in
      rw (le-ltb k (key y) (leb-true (key y) k (h.0 0 y (omega arith) (omega arith)))) (ap suc s)
