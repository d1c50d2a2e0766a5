-- What the calls on settings and pairs answer. Assumes nothing.
use Rattle.std.specs.Prelude.{ℕ, cond, List, length, Ok, Err, Result, ◌==◌, nat_le, nat_lt}
use Rattle.ordered.specs.Keys.{inserted_by}
use Rattle.layers.specs.Held.{has_pair, numbers_row}
use Rattle.layers.specs.declared.fault.LayerFault.{LayerFault}
use Rattle.layers.specs.declared.fault.LayerFault.TheVariants.{Range, Equal, Held, Full}
use Rattle.layers.specs.declared.pair.Pair.{Pair}

-- accepted with a number, or refused with a code and the field that it names, 0 where it names none
pub data Outcome : Type 0 where
  accepted : ℕ → Outcome
  refused : (code field : ℕ) → Outcome

-- the code of each fault
abbrev pub layer_code : LayerFault → ℕ
layer_code (Range field) = 3
layer_code Equal = 8
layer_code Held = 9
layer_code Full = 10

-- the field that it names, 0 where it names none
abbrev pub layer_field : LayerFault → ℕ
layer_field (Range field) = field
layer_field Equal = 0
layer_field Held = 0
layer_field Full = 0

-- the outcome of a call that answers with a setting, whose number is told by a function
abbrev pub setting_of : {X : Type 0} → (X → ℕ) → Result X LayerFault → Outcome
setting_of value (Ok x) = accepted (value x)
setting_of value (Err e) = refused (layer_code e) (layer_field e)

-- the outcome of a call that answers with nothing
abbrev pub outcome_of : Result (Unit {0}) LayerFault → Outcome
outcome_of r = setting_of (λ _. 0) r

-- a setting of at most so much
abbrev pub setting : (most value : ℕ) → Outcome
setting most value = cond (nat_le value most) (accepted value) (refused 3 1)

-- a pair is added: its numbers are in range, the leftmost first, they differ, it is not held, and fewer than 32 are
abbrev pub add_outcome : Pair → List Pair → Outcome
add_outcome p ps =
    cond (numbers_row p.upper)
    (cond (numbers_row p.lower)
    (cond (p.upper == p.lower) (refused 8 0)
    (cond (has_pair p ps) (refused 9 0)
    (cond (nat_lt (length ps) 32) (accepted 0) (refused 10 0))))
    (refused 3 2))
    (refused 3 1)

-- the pairs with one more in its place by first number, where it was accepted, else as they were
abbrev pub pairs_after : Outcome → Pair → List Pair → List Pair
pairs_after (accepted n) p ps = inserted_by (λ q. q.upper) p ps
pairs_after (refused code field) p ps = ps

-- the pairs after a call that adds one
abbrev pub after_adding : Pair → List Pair → List Pair
after_adding p ps = pairs_after (add_outcome p ps) p ps
