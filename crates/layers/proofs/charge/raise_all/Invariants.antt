use Rattle.std.proofs.Common.{◌≡◌, map, take}
use Rattle.arrayvec.specs.ArrayVec.{array_vec_len}
use Rattle.layers.specs.Layers.{raised}
use Rattle.layers.proofs.charge.raise_all.Given as goal

abbrev pub invariant-loop-row : goal.invariant-loop-row
invariant-loop-row l = (l.rows.items ≡ map (raised l.by.value) (take l.row-index l.table)) × (array_vec_len l.rows ≡ l.row-index)
