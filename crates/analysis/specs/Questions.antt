-- A question: a table, a mark for each row, and the place of the row that is asked about. Assumes nothing.
use Rattle.std.specs.Prelude.{◌≡◌, ℕ, ◌<◌, ◌≤◌, List, length, slice_index_or}
use Rattle.analysis.specs.Ranges.{InRange, asked_cost}
use Rattle.analysis.specs.declared.row.Mark.{Mark}
use Rattle.analysis.specs.declared.row.Row.{Row}
use Rattle.analysis.specs.declared.row.Verdict.{Verdict}

-- what an analysis means: the verdict on the row at a place, from table, marks and place alone
abbrev pub Meaning : Type 0
Meaning = List Row → List Mark → ℕ → Verdict

-- read past the end of a table, where no definition depends on it
abbrev pub no_row : Row
no_row = record { number = 0; cost = 0; period = 0; deadline = 0; section = 0 }

-- the row at a place
abbrev pub row_at : List Row → ℕ → Row
row_at t i = slice_index_or t i no_row

-- a question that gets a verdict
pub record Fair (t : List Row) (m : List Mark) (i : ℕ) : Type 0 where
  pub few : length t ≤ 128
  pub marked : length m ≡ length t
  pub within : i < length t
  pub ranges : (k : ℕ) → k < length t → InRange asked_cost (row_at t k)
