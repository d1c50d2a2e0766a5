-- Each named analysis keeps the four laws. Assumes nothing.
use Rattle.analysis.specs.Choices.{chosen}
use Rattle.analysis.specs.Laws.{Lawful}
use Rattle.analysis.specs.declared.choice.Choice.{Choice}
use Rattle.analysis.specs.declared.choice.Choice.TheVariants.{Exact, Linear, Sections}
use Rattle.analysis.specs.Lemmas.Eased.{exact_lawful, linear_lawful, sections_lawful}

pub chosen_lawful : (c : Choice) → Lawful (chosen c)
chosen_lawful Exact = exact_lawful
chosen_lawful Linear = linear_lawful
chosen_lawful Sections = sections_lawful
