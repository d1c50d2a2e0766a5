-- The lines of a script and the fields of a line, as lists of bytes. Assumes nothing.
use Rattle.std.specs.Prelude.{ℕ, ◌+◌, cond, List, [], ◌∷◌, length, ◌==◌}

-- the pieces with the byte c before the first of them, or c alone where there is none
abbrev pub on_first : ℕ → List (List ℕ) → List (List ℕ)
on_first c [] = (c ∷ []) ∷ []
on_first c (l ∷ ls) = (c ∷ l) ∷ ls

-- the lines of a script: each ends with byte 10, which the last may lack
abbrev pub lines_of : List ℕ → List (List ℕ)
lines_of [] = []
lines_of (c ∷ cs) = cond (c == 10) ([] ∷ lines_of cs) (on_first c (lines_of cs))

-- the fields of a line: commas part them, so that the empty line has one field, the empty one
abbrev pub fields_of : List ℕ → List (List ℕ)
fields_of [] = [] ∷ []
fields_of (c ∷ cs) = cond (c == 44) ([] ∷ fields_of cs) (on_first c (fields_of cs))

-- some bytes, and the place in the script where they begin
pub record Spot : Type 0 where
  pub place : ℕ
  pub text : List ℕ

-- fields one after another from the place p on, each but the last before a comma
abbrev pub spots : ℕ → List (List ℕ) → List Spot
spots p [] = []
spots p (f ∷ fs) = record { place = p; text = f } ∷ spots (p + length f + 1) fs

-- what stands before the first b
abbrev pub before : ℕ → List ℕ → List ℕ
before b [] = []
before b (c ∷ cs) = cond (c == b) [] (c ∷ before b cs)

-- what stands after the first b
abbrev pub after : ℕ → List ℕ → List ℕ
after b [] = []
after b (c ∷ cs) = cond (c == b) cs (after b cs)
