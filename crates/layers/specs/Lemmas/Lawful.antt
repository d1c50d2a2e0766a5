-- Every pile keeps the four laws. Assumes nothing.
use Rattle.analysis.specs.Lemmas.Chosen.{chosen_lawful}
use Rattle.layers.specs.Lemmas.Layered.{charged_lawful, margin_lawful}
use Rattle.layers.specs.Lemmas.Paired.{pairs_lawful}
use Rattle.layers.specs.Piles.{PilesLawful, charge, margin, meaning_of, named, pairs}

pub piles_lawful : PilesLawful
piles_lawful (named c) = chosen_lawful c
piles_lawful (charge s p) = charged_lawful s (meaning_of p) (piles_lawful p)
piles_lawful (margin n p) = margin_lawful n (meaning_of p) (piles_lawful p)
piles_lawful (pairs ps p) = pairs_lawful ps (meaning_of p) (piles_lawful p)
