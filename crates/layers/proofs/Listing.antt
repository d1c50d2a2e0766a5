-- Which pair may be held. Assumes nothing.
use Rattle.std.proofs.Common.{◌≡◌, ℕ, ◌≤◌, true, false, arith}
use Rattle.std.proofs.lemmas.Bool.Decides.{nat_tests}
use Rattle.layers.specs.Held.{pair_in_range, same_pair}
use Rattle.layers.specs.declared.pair.Pair.{Pair}

pub same_turns : (p q : Pair) → same_pair p q ≡ false → same_pair q p ≡ false
same_turns p q e = grind (arith, nat_tests)

pub fine_pair : (u l : ℕ) → 1 ≤ u → u ≤ 65535 → 1 ≤ l → l ≤ 65535 → (u ≡ l → ⊥) → pair_in_range (record { upper = u; lower = l }) ≡ true
fine_pair u l a b c d ne = grind (arith, nat_tests)
