use Rattle.layers.specs.Lemmas.Lawful.{piles_lawful}
use Rattle.layers.proofs.Piled.{alike_agree}
use Rattle.layers.proofs.laws.alike_piles_agree.Goals as goal

pub returns : goal.returns
returns c = record { agree = alike_agree; lawful = piles_lawful }
