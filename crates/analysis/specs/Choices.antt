-- What each named analysis means. Assumes nothing.
use Rattle.analysis.specs.Questions.{Meaning}
use Rattle.analysis.specs.Responses.{exact, linear, sections}
use Rattle.analysis.specs.declared.choice.Choice.{Choice}
use Rattle.analysis.specs.declared.choice.Choice.TheVariants.{Exact, Linear, Sections}

-- the analysis of that name
abbrev pub chosen : Choice → Meaning
chosen Exact = exact
chosen Linear = linear
chosen Sections = sections
