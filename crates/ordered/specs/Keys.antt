-- Lists kept by ascending key, a number that each element has. Assumes nothing.
use Rattle.std.specs.Prelude.{◌≡◌, ℕ, ◌<◌, ◌≤◌, Bool, true, cond, ◌&&◌, ltb, List, [], ◌∷◌, ◌++◌, nat_le, nat_lt}
use Rattle.ordered.specs.Tests.{first_place}
use Rattle.std.specs.List.{AllByRecursion}

-- where an element of key k goes: before the first element of a greater key
abbrev pub place_by : {X : Type 0} → (X → ℕ) → ℕ → List X → ℕ
place_by key k xs = first_place (λ y. ltb k (key y)) xs

-- the list with the element in its place by key, after the elements of an equal one
abbrev pub inserted_by : {X : Type 0} → (X → ℕ) → X → List X → List X
inserted_by key x [] = x ∷ []
inserted_by key x (y ∷ ys) = cond (nat_lt (key x) (key y)) (x ∷ y ∷ ys) (y ∷ inserted_by key x ys)

-- the list does not begin with a key below k
abbrev pub from_key : {X : Type 0} → (X → ℕ) → ℕ → List X → Bool
from_key key k [] = true
from_key key k (y ∷ ys) = nat_le k (key y)

-- no key is below the one before it
abbrev pub ascending : {X : Type 0} → (X → ℕ) → List X → Bool
ascending key [] = true
ascending key (y ∷ ys) = from_key key (key y) ys && ascending key ys

-- ys is xs with x in between: after every element of no greater key, before every element of a greater one, the others as they stood
pub record Inserted {X : Type 0} (key : X → ℕ) (x : X) (xs ys : List X) : Type 0 where
  pub front : List X
  pub back : List X
  pub before : xs ≡ front ++ back
  pub after : ys ≡ front ++ x ∷ back
  pub no_greater : AllByRecursion (λ y. key y ≤ key x) front
  pub greater : AllByRecursion (λ y. key x < key y) back
