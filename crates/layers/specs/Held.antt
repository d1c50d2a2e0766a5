-- What a list of pairs keeps. Assumes nothing.
use Rattle.std.specs.Prelude.{ℕ, Bool, not, ◌&&◌, List, ◌==◌, nat_le}
use Rattle.ordered.specs.Tests.{apart}
use Rattle.std.specs.List.{list_all, list_any}
use Rattle.layers.specs.declared.pair.Pair.{Pair}

-- the second pair has the numbers of the first
abbrev pub same_pair : Pair → Pair → Bool
same_pair p q = q.upper == p.upper && q.lower == p.lower

-- the pair is one of these
abbrev pub has_pair : Pair → List Pair → Bool
has_pair p ps = list_any (same_pair p) ps

-- the number may be a row's
abbrev pub numbers_row : ℕ → Bool
numbers_row n = nat_le 1 n && nat_le n 65535

-- both numbers of the pair may be a row's, and they differ
abbrev pub pair_in_range : Pair → Bool
pair_in_range p = numbers_row p.upper && (numbers_row p.lower && not (p.upper == p.lower))

-- every pair is in range
abbrev pub pairs_in_range : List Pair → Bool
pairs_in_range ps = list_all pair_in_range ps

-- no pair stands twice
abbrev pub distinct_pairs : List Pair → Bool
distinct_pairs ps = apart same_pair ps
