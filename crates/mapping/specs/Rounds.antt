-- The steps of a round of the mapping, as the code takes them. Assumes nothing.
use Rattle.std.specs.Prelude.{◌≡◌, ℕ, ◌%◌, ◌<◌, ◌≤◌, Bool, List, length, ◌==◌, slice_index_or}
use Rattle.analysis.specs.Questions.{no_row, row_at}
use Rattle.analysis.specs.Ranges.{InRange, asked_cost}
use Rattle.analysis.specs.declared.row.Mark.{Mark}
use Rattle.analysis.specs.declared.row.Row.{Row}
use Rattle.mapping.specs.Plans.{kept}
use Rattle.mapping.specs.declared.plan.Rule.{Rule}
use Rattle.mapping.specs.declared.plan.Rule.TheVariants.{Equal, Divided}
use Rattle.mapping.specs.declared.round.Candidate.{Candidate}
use Rattle.mapping.specs.declared.round.Lead.{Lead}

-- read past the end of a list of candidates, where no definition depends on it
abbrev pub no_candidate : Candidate
no_candidate = record { at = 0; row = no_row; response = 0 }

-- whether a row of period q goes with a lead of period p, where d is the shortest period that divides p
abbrev pub goes : Rule → ℕ → ℕ → ℕ → Bool
goes Equal p d q = q == p
goes Divided p d q = q % d == 0

-- the candidates that go with the lead
abbrev pub led : Lead → List Candidate → List Candidate
led l cs = kept (goes l.rule l.period l.divisor) cs

-- a table and marks of which each row can be asked about
pub record Asked (t : List Row) (m : List Mark) : Type 0 where
  pub few : length t ≤ 128
  pub marked : length m ≡ length t
  pub ranges : (k : ℕ) → k < length t → InRange asked_cost (row_at t k)

-- candidates that stand in a table of n rows, with periods above 0
pub record Usable (n : ℕ) (cs : List Candidate) : Type 0 where
  pub places : (k : ℕ) → k < length cs → (slice_index_or cs k no_candidate).at < n
  pub periods : (k : ℕ) → k < length cs → 0 < (slice_index_or cs k no_candidate).row.period
