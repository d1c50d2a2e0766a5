use Rattle.analysis.specs.Lemmas.Demands.{rounded_up}
use Rattle.analysis.proofs.laws.activations_round_up.Goals as goal

pub returns : goal.returns
returns c = rounded_up
