-- Tests of the elements of a list, for what a kept list holds. Assumes nothing.
use Rattle.std.specs.Prelude.{ℕ, suc, Bool, true, cond, not, ◌&&◌, List, [], ◌∷◌}
use Rattle.std.specs.List.{list_all}

-- the place of the first element that passes the test; the length where none does
abbrev pub first_place : {X : Type 0} → (X → Bool) → List X → ℕ
first_place test [] = 0
first_place test (y ∷ ys) = cond (test y) 0 (suc (first_place test ys))

-- no element is the same as a later one
abbrev pub apart : {X : Type 0} → (X → X → Bool) → List X → Bool
apart same [] = true
apart same (y ∷ ys) = list_all (λ z. not (same y z)) ys && apart same ys
