-- The pairs of a list of pairs. Assumes nothing.
use Rattle.std.specs.Prelude.{List, vec_items}
use Rattle.layers.specs.declared.pair.Pair.{Pair}
use Rattle.layers.specs.declared.pair_list.PairList.{PairList}

-- the pairs that are held, by first number
abbrev pub pairs_of : PairList → List Pair
pairs_of l = vec_items l.pairs.items
