-- The four laws that an analysis keeps on every question that gets a verdict. Assumes nothing.
use Rattle.std.specs.Prelude.{◌≡◌, ℕ, ◌-◌, ◌<◌, ◌≤◌, cond, List, length, ◌≢◌, nat_lt, slice_index_or, slice_set}
use Rattle.std.specs.List.{remove}
use Rattle.analysis.specs.Questions.{Fair, Meaning, row_at}
use Rattle.analysis.specs.declared.row.Mark.{Mark}
use Rattle.analysis.specs.declared.row.Mark.TheVariants.{Above, Below}
use Rattle.analysis.specs.declared.row.Row.{Row}
use Rattle.analysis.specs.declared.row.Verdict.{Verdict}
use Rattle.analysis.specs.declared.row.Verdict.TheVariants.{OnTime}

-- on time, with a response of at most w
abbrev pub OnTimeBy : ℕ → Verdict → Type 0
OnTimeBy w x = (r : ℕ) × ((x ≡ OnTime r) × (r ≤ w))

-- the response of a row on time lies between its cost and its deadline
abbrev pub Bounds : Meaning → Type 0
Bounds v =
    (t : List Row) (m : List Mark) (i w : ℕ) → Fair t m i → v t m i ≡ OnTime w →
    ((row_at t i).cost ≤ w) × (w ≤ (row_at t i).deadline)

-- a row on time stays so, with no greater response, where another row moves from above to below
abbrev pub Promotion : Meaning → Type 0
Promotion v =
    (t : List Row) (m : List Mark) (i k w : ℕ) → Fair t m i → k < length t → (k ≢ i) → slice_index_or m k Below ≡ Above →
    v t m i ≡ OnTime w → OnTimeBy w (v t (slice_set m k Below) i)

-- where the asked row stands once the row at k is taken out
abbrev pub place_after : ℕ → ℕ → ℕ
place_after k i = cond (nat_lt k i) (i - 1) i

-- a row on time stays so, with no greater response, where another row that is below is taken out with its mark
abbrev pub Withdrawal : Meaning → Type 0
Withdrawal v =
    (t : List Row) (m : List Mark) (i k w : ℕ) → Fair t m i → k < length t → (k ≢ i) → slice_index_or m k Above ≡ Below →
    v t m i ≡ OnTime w → OnTimeBy w (v (remove t k) (remove m k) (place_after k i))

-- the asked row's own mark does not matter
abbrev pub OwnMark : Meaning → Type 0
OwnMark v = (t : List Row) (m : List Mark) (i : ℕ) (x : Mark) → Fair t m i → v t (slice_set m i x) i ≡ v t m i

-- all four laws
pub record Lawful (v : Meaning) : Type 0 where
  pub bounds : Bounds v
  pub promotion : Promotion v
  pub withdrawal : Withdrawal v
  pub own : OwnMark v
