-- The layers: each turns the meaning of the analysis below it into another. Assumes nothing.
use Rattle.std.specs.Prelude.{◌≡◌, ℕ, ◌+◌, ◌-◌, ◌*◌, ◌<◌, min, Bool, false, cond, ◌&&◌, ◌||◌, List, [], ◌∷◌, map, length, ◌==◌, nat_le, slice_index_or, slice_set}
use Rattle.analysis.specs.Questions.{Meaning, row_at}
use Rattle.analysis.specs.Ranges.{asked_cost}
use Rattle.analysis.specs.declared.row.Mark.{Mark}
use Rattle.analysis.specs.declared.row.Mark.TheVariants.{Above, Below}
use Rattle.analysis.specs.declared.row.Row.{Row}
use Rattle.analysis.specs.declared.row.Verdict.{Verdict}
use Rattle.analysis.specs.declared.row.Verdict.TheVariants.{OnTime, Late}
use Rattle.layers.specs.declared.pair.Pair.{Pair}
use Rattle.std.specs.List.{ContainsAt as Has}

-- ---- charge

-- the row with its cost raised by s, to no more than 1,000,001, and no other value changed
abbrev pub raised : ℕ → Row → Row
raised s r =
    record { number = r.number; cost = min (r.cost + s) asked_cost; period = r.period; deadline = r.deadline; section = r.section }

-- what is said below of the table with every cost raised by s
abbrev pub charged : ℕ → Meaning → Meaning
charged s v t m i = v (map (raised s) t) m i

-- ---- margin

-- on time only where the response leaves p percent of the deadline d
abbrev pub kept_within : ℕ → ℕ → Verdict → Verdict
kept_within p d (OnTime r) = cond (nat_le (r * 100) (d * (100 - p))) (OnTime r) Late
kept_within p d Late = Late

-- what is said below, where p percent of the asked row's deadline are left
abbrev pub with_margin : ℕ → Meaning → Meaning
with_margin p v t m i = kept_within p (row_at t i).deadline (v t m i)

-- ---- pairs

-- a row marked above has the number n
abbrev pub above_has : ℕ → List Row → List Mark → Bool
above_has n [] m = false
above_has n (r ∷ t) [] = false
above_has n (r ∷ t) (Above ∷ m) = r.number == n || above_has n t m
above_has n (r ∷ t) (Below ∷ m) = above_has n t m

-- a pair has n as its upper number, and its lower number is that of a row marked above
abbrev pub pair_broken : List Pair → ℕ → List Row → List Mark → Bool
pair_broken [] n t m = false
pair_broken (p ∷ ps) n t m = (p.upper == n && above_has p.lower t m) || pair_broken ps n t m

-- late where a pair of the asked row's number is broken by another row, else what is said below
abbrev pub with_pairs : List Pair → Meaning → Meaning
with_pairs ps v t m i = cond (pair_broken ps (row_at t i).number t (slice_set m i Below)) Late (v t m i)

-- the asked row is the upper one of a pair whose lower number is that of another row, which is marked above
pub record Breaks (ps : List Pair) (t : List Row) (m : List Mark) (i : ℕ) : Type 0 where
  pub pair : Pair
  pub held : Has ps pair
  pub upper : pair.upper ≡ (row_at t i).number
  pub at : ℕ
  pub within : at < length t
  pub other : at ≡ i → ⊥
  pub above : slice_index_or m at Below ≡ Above
  pub lower : (row_at t at).number ≡ pair.lower
