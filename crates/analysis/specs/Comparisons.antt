-- How the three analyses compare. Assumes nothing.
use Rattle.std.specs.Prelude.{◌≡◌, ℕ, List}
use Rattle.analysis.specs.Laws.{OnTimeBy}
use Rattle.analysis.specs.Questions.{Fair, Meaning}
use Rattle.analysis.specs.Responses.{exact, linear, sections}
use Rattle.analysis.specs.declared.row.Mark.{Mark}
use Rattle.analysis.specs.declared.row.Row.{Row}
use Rattle.analysis.specs.declared.row.Verdict.TheVariants.{OnTime}

-- where v finds a row on time, u does too, with no greater response
abbrev pub AtMost : Meaning → Meaning → Type 0
AtMost u v = (t : List Row) (m : List Mark) (i w : ℕ) → Fair t m i → v t m i ≡ OnTime w → OnTimeBy w (u t m i)

-- the linear test is safe
abbrev pub LinearSafe : Type 0
LinearSafe = AtMost exact linear

-- and so is the test with sections
abbrev pub SectionsSafe : Type 0
SectionsSafe = AtMost exact sections
