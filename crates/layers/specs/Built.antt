-- The pile that a value stands for. Assumes nothing.
use Rattle.layers.specs.Lists.{pairs_of}
use Rattle.layers.specs.Piles.{Pile, charge, margin, named, pairs}
use Rattle.layers.specs.declared.pile.Pile as built

-- its analysis and layers
abbrev pub pile_of : built.Pile → Pile
pile_of (built.Named c) = named c
pile_of (built.Charge' p ticks below) = charge ticks.value (pile_of below)
pile_of (built.Margin' p percent below) = margin percent.value (pile_of below)
pile_of (built.Pairs' p list below) = pairs (pairs_of list) (pile_of below)
