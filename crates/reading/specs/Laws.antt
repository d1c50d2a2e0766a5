-- Laws of lines, fields and numbers, in the subject's own words. Assumes nothing.
use Rattle.std.specs.Prelude.{◌≡◌, ℕ, ◌^◌, ◌<◌, ◌≤◌, cond, List, [], ◌∷◌, ◌++◌, length, Some, decimal, ◌==◌, ◌≢◌}
use Rattle.std.specs.List.{flat_map, AllByRecursion}
use Rattle.reading.specs.Lines.{lines_of, fields_of}
use Rattle.reading.specs.Numbers.{number}

-- a script with byte 10 at its end, where it lacks it
abbrev pub ended : List ℕ → List ℕ
ended [] = []
ended (c ∷ []) = cond (c == 10) (c ∷ []) (c ∷ 10 ∷ [])
ended (c ∷ d ∷ ds) = c ∷ ended (d ∷ ds)

-- the lines, each with byte 10 after it, are the script
abbrev pub LinesJoin : Type 0
LinesJoin = (s : List ℕ) → flat_map (λ l. l ++ (10 ∷ [])) (lines_of s) ≡ ended s

-- no byte of l is b
abbrev pub Lacks : ℕ → List ℕ → Type 0
Lacks b l = AllByRecursion (λ c. c ≢ b) l

-- no line has byte 10
abbrev pub LinesLackEnds : Type 0
LinesLackEnds = (s : List ℕ) → AllByRecursion (Lacks 10) (lines_of s)

-- there are at most as many lines as bytes
abbrev pub LinesFew : Type 0
LinesFew = (s : List ℕ) → length (lines_of s) ≤ length s

-- the fields, each with a comma after it, are the line and one comma
abbrev pub FieldsJoin : Type 0
FieldsJoin = (l : List ℕ) → flat_map (λ f. f ++ (44 ∷ [])) (fields_of l) ≡ l ++ (44 ∷ [])

-- no field has a comma
abbrev pub FieldsLackCommas : Type 0
FieldsLackCommas = (l : List ℕ) → AllByRecursion (Lacks 44) (fields_of l)

-- the text of a number below 10,000,000 reads as that number
abbrev pub TextReads : Type 0
TextReads = (n : ℕ) → n < 10 ^ 7 → number (decimal n) ≡ Some n

-- a field that reads as a number is the text of that number, which is below 10,000,000
abbrev pub NumberTexts : Type 0
NumberTexts = (bs : List ℕ) (n : ℕ) → number bs ≡ Some n → (n < 10 ^ 7) × (bs ≡ decimal n)
