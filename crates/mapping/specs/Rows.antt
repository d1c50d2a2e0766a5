-- The rows of a sheet. Assumes nothing.
use Rattle.std.specs.Prelude.{List, vec_items}
use Rattle.analysis.specs.declared.row.Row.{Row}
use Rattle.mapping.specs.declared.sheet.Sheet.{Sheet}

-- the rows that stand on a sheet, in its order
abbrev pub rows_of : Sheet → List Row
rows_of s = vec_items s.rows.items
