use Rattle.analysis.specs.Lemmas.Eased.{linear_safe, sections_safe}
use Rattle.analysis.proofs.laws.exact_is_least.Goals as goal

pub returns : goal.returns
returns c = record { linear = linear_safe; sections = sections_safe }
