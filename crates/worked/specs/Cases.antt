-- What the definitions give for a case, and what is expected. Assumes nothing.
use Rattle.std.specs.Prelude.{true, List, map, Some, None, Option, option_map}
use Rattle.analysis.specs.Questions.{Meaning}
use Rattle.analysis.specs.declared.choice.Choice.{Choice}
use Rattle.analysis.specs.declared.row.Row.{Row}
use Rattle.analysis.specs.declared.row.Verdict.{Verdict}
use Rattle.layers.specs.Piles.{Pile, charge, margin, meaning_of, named, pairs}
use Rattle.mapping.specs.Courses.{entry, table}
use Rattle.mapping.specs.Plans.{plan}
use Rattle.mapping.specs.declared.plan.PlanLine.{PlanLine}
use Rattle.worked.specs.declared.case.Asked.{Asked}
use Rattle.worked.specs.declared.case.Asked.TheVariants as asked
use Rattle.worked.specs.declared.case.Case.{Case}
use Rattle.worked.specs.declared.case.Layer.{Layer}
use Rattle.worked.specs.declared.case.Layer.TheVariants as layer

-- what comes of a case
pub data Outcome : Type 0 where
  -- the lines of a plan, or None where the rows are unschedulable
  mapped : Option (List PlanLine) → Outcome
  -- the verdict on a row
  judged : Verdict → Outcome

-- ---- by the definitions

-- the pile of a case: the analysis, and the layer above it where there is one
abbrev pub pile_of : Choice → Option Layer → Pile
pile_of c None = named c
pile_of c (Some (layer.Charge s)) = charge s (named c)
pile_of c (Some (layer.Margin p)) = margin p (named c)
pile_of c (Some (layer.Pairs ps)) = pairs ps.now (named c)

-- the rows of a new sheet into which these were entered in their order
abbrev pub sheet_of : List Row → List Row
sheet_of rs = table (map (λ r. entry r true) rs)

-- what is asked, by the meaning of the pile
abbrev pub given_by : Meaning → List Row → Asked → Outcome
given_by v rs (asked.Mapping rule lines) = mapped (plan v rule (sheet_of rs))
given_by v rs (asked.Verdict marks place verdict) = judged (v rs marks.now place)

-- what the definitions give for a case
abbrev pub given : Case → Outcome
given c = given_by (meaning_of (pile_of c.analysis c.layer)) c.rows.now c.asked

-- ---- by hand

-- what is expected of what is asked
abbrev pub expected_of : Asked → Outcome
expected_of (asked.Mapping rule lines) = mapped (option_map (λ l. l.now) lines)
expected_of (asked.Verdict marks place verdict) = judged verdict

-- what is expected of a case
abbrev pub expected : Case → Outcome
expected c = expected_of c.asked
