-- Piles: a named analysis with layers above it, in any number and order. Assumes nothing.
use Rattle.std.specs.Prelude.{◌≡◌, ℕ, ◌↔◌, List}
use Rattle.analysis.specs.Choices.{chosen}
use Rattle.analysis.specs.Laws.{Lawful}
use Rattle.analysis.specs.Questions.{Meaning}
use Rattle.analysis.specs.declared.choice.Choice.{Choice}
use Rattle.analysis.specs.declared.row.Mark.{Mark}
use Rattle.analysis.specs.declared.row.Row.{Row}
use Rattle.layers.specs.Layers.{charged, with_margin, with_pairs}
use Rattle.layers.specs.declared.pair.Pair.{Pair}
use Rattle.std.specs.List.{ContainsAt as Has}

-- an analysis with its layers, the topmost first
pub data Pile : Type 0 where
  named : Choice → Pile
  charge : ℕ → Pile → Pile
  margin : ℕ → Pile → Pile
  pairs : List Pair → Pile → Pile

-- what a pile means
abbrev pub meaning_of : Pile → Meaning
meaning_of (named c) = chosen c
meaning_of (charge s p) = charged s (meaning_of p)
meaning_of (margin n p) = with_margin n (meaning_of p)
meaning_of (pairs ps p) = with_pairs ps (meaning_of p)

-- the same pairs are held, in whatever order
abbrev pub SamePairs : List Pair → List Pair → Type 0
SamePairs ps qs = (p : Pair) → Has ps p ↔ Has qs p

-- the same analysis, layers, order of layers, settings and pairs
pub data Alike : Pile → Pile → Type 0 where
  same_named : (c : Choice) → Alike (named c) (named c)
  same_charge : (s : ℕ) (p q : Pile) → Alike p q → Alike (charge s p) (charge s q)
  same_margin : (n : ℕ) (p q : Pile) → Alike p q → Alike (margin n p) (margin n q)
  same_pairs : (ps qs : List Pair) (p q : Pile) → SamePairs ps qs → Alike p q → Alike (pairs ps p) (pairs qs q)

-- alike piles give every question the same verdict
abbrev pub AlikeAgree : Type 0
AlikeAgree = (p q : Pile) → Alike p q → (t : List Row) (m : List Mark) (i : ℕ) → meaning_of p t m i ≡ meaning_of q t m i

-- every pile keeps the four laws
abbrev pub PilesLawful : Type 0
PilesLawful = (p : Pile) → Lawful (meaning_of p)
