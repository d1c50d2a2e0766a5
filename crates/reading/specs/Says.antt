-- What a line says, or its refusal. Assumes nothing.
use Rattle.std.specs.Prelude.{◌≡◌, ℕ, ◌+◌, cond, List, [], ◌∷◌, map, length, is_some, IfOk, Some, None, Ok, Err, codes, Option, Result, MatchResult, ◌==◌, ◌≢◌, slice_index_or}
use Rattle.std.specs.Str.{bytes_eq}
use Rattle.analysis.specs.declared.choice.Choice.{Choice}
use Rattle.analysis.specs.declared.choice.Choice.TheVariants.{Exact, Linear, Sections}
use Rattle.analysis.specs.declared.row.Row.{Row}
use Rattle.mapping.specs.declared.plan.Rule.{Rule}
use Rattle.mapping.specs.declared.plan.Rule.TheVariants.{Equal, Divided}
use Rattle.reading.specs.Lines.{Spot, fields_of}
use Rattle.reading.specs.Numbers.{number, value}
use Rattle.reading.specs.Reading.{text, spot, spots_in, texts_in}
use Rattle.reading.specs.declared.fault.ReadFault.{ReadFault}
use Rattle.reading.specs.declared.fault.ReadFault.TheVariants.{TooLong}
use Rattle.reading.specs.declared.fault.TextFault.{TextFault}
use Rattle.reading.specs.declared.fault.TextFault.TheVariants.{Form, Number}
use Rattle.reading.specs.declared.field.Field.{Field}
use Rattle.reading.specs.declared.line.Line.{Line}
use Rattle.reading.specs.declared.line.Line.TheVariants as l
use Rattle.reading.specs.declared.words.Word.{Word}
use Rattle.reading.specs.declared.words.Word.TheVariants as w

-- what a line says, by its kind
pub data Said : Type 0 where
  row : Row → Said
  strike : (number : ℕ) → Said
  pair : (u l : ℕ) → Said
  charge : (s : ℕ) → Said
  margin : (p : ℕ) → Said
  mapping : Choice → Rule → Said

-- what is read of a line: what it says, or the code and the field of its refusal
pub data Read : Type 0 where
  says : Said → Read
  refused : (code field : ℕ) → Read

-- the kind of line that a word begins
abbrev pub word_of : List ℕ → Option Word
word_of bs =
    cond (bytes_eq bs (codes "row")) (Some w.Row)
    (cond (bytes_eq bs (codes "strike")) (Some w.Strike)
    (cond (bytes_eq bs (codes "pair")) (Some w.Pair)
    (cond (bytes_eq bs (codes "charge")) (Some w.Charge)
    (cond (bytes_eq bs (codes "margin")) (Some w.Margin)
    (cond (bytes_eq bs (codes "map")) (Some w.Map) None)))))

-- the analysis that a word names
abbrev pub choice_of : List ℕ → Option Choice
choice_of bs =
    cond (bytes_eq bs (codes "exact")) (Some Exact)
    (cond (bytes_eq bs (codes "linear")) (Some Linear)
    (cond (bytes_eq bs (codes "sections")) (Some Sections) None))

-- the grouping rule that a word names
abbrev pub rule_of : List ℕ → Option Rule
rule_of bs = cond (bytes_eq bs (codes "equal")) (Some Equal) (cond (bytes_eq bs (codes "divided")) (Some Divided) None)

-- x, where there are n fields; any other count of fields is refused by code 1
abbrev pub counted : ℕ → List (List ℕ) → Read → Read
counted n fs x = cond (length fs == n) x (refused 1 0)

-- x, where the fields from the k-th on are numbers; the leftmost that is none is refused by code 2
abbrev pub numbered : ℕ → List (List ℕ) → Read → Read
numbered k [] x = x
numbered k (f ∷ fs) x = cond (is_some (number f)) (numbered (k + 1) fs x) (refused 2 k)

-- the value of the k-th field, from 0
abbrev pub at : List (List ℕ) → ℕ → ℕ
at fs k = value (slice_index_or fs k [])

-- the row of five fields
abbrev pub row_at : List (List ℕ) → Row
row_at fs = record { number = at fs 0; cost = at fs 1; period = at fs 2; deadline = at fs 3; section = at fs 4 }

-- an analysis and a rule, where both words name one; else code 1
abbrev pub mapped : Option Choice → Option Rule → Read
mapped None g = refused 1 0
mapped (Some a) None = refused 1 0
mapped (Some a) (Some g) = says (mapping a g)

-- what the fields after a word say
abbrev pub reads : Word → List (List ℕ) → Read
reads w.Row fs = counted 5 fs (numbered 1 fs (says (row (row_at fs))))
reads w.Strike fs = counted 1 fs (numbered 1 fs (says (strike (at fs 0))))
reads w.Pair fs = counted 2 fs (numbered 1 fs (says (pair (at fs 0) (at fs 1))))
reads w.Charge fs = counted 1 fs (numbered 1 fs (says (charge (at fs 0))))
reads w.Margin fs = counted 1 fs (numbered 1 fs (says (margin (at fs 0))))
reads w.Map fs = counted 2 fs (mapped (choice_of (slice_index_or fs 0 [])) (rule_of (slice_index_or fs 1 [])))

-- the same, where the word is known; else code 1
abbrev pub reads_if : Option Word → List (List ℕ) → Read
reads_if None fs = refused 1 0
reads_if (Some v) fs = reads v fs

-- what all the fields of a line say, the word first
abbrev pub reads_fields : List (List ℕ) → Read
reads_fields [] = refused 1 0
reads_fields (f ∷ fs) = reads_if (word_of f) fs

-- what a line says
abbrev pub reading_of : List ℕ → Read
reading_of line = reads_fields (fields_of line)

-- what a line that was read says
abbrev pub said : Line → Said
said (l.Row n c p d s) =
    row (record { number = value (text n); cost = value (text c); period = value (text p); deadline = value (text d); section = value (text s) })
said (l.Strike n) = strike (value (text n))
said (l.Pair u v) = pair (value (text u)) (value (text v))
said (l.Charge s) = charge (value (text s))
said (l.Margin p) = margin (value (text p))
said (l.Map a c g r) = mapping c r

-- the code of a script that is not read
abbrev pub read_code : ReadFault → ℕ
read_code TooLong = 13

-- the code of a line that is not read
abbrev pub text_code : TextFault → ℕ
text_code Form = 1
text_code (Number k) = 2

-- the field that it names, 0 where it names none
abbrev pub text_field : TextFault → ℕ
text_field Form = 0
text_field (Number k) = k

-- the code and the field of a fault
abbrev pub refusal : TextFault → Read
refusal e = refused (text_code e) (text_field e)

-- what the code's answer says
abbrev pub outcome : Result Line TextFault → Read
outcome (Ok l) = says (said l)
outcome (Err e) = refusal e

-- x, unless a fault came before it
abbrev pub passed : {T : Type 0} → Result T TextFault → Read → Read
passed (Ok t) x = x
passed (Err e) x = refusal e

-- r has the n fields of a line, which stand at some spots, or the line has another count of them
abbrev pub FieldsAs : {T : Type 0} → ℕ → (T → List Spot) → Option Field → Result T TextFault → Type 0
FieldsAs n at o r = MatchResult r (λ t. spots_in o ≡ at t) (λ e. (e ≡ Form) × (length (spots_in o) ≢ n))

-- the fields of a line stand at these spots
abbrev pub Stands : List Spot → Line → Type 0
Stands ss (l.Row n c p d s) = ss ≡ spot n ∷ spot c ∷ spot p ∷ spot d ∷ spot s ∷ []
Stands ss (l.Strike n) = ss ≡ spot n ∷ []
Stands ss (l.Pair u v) = ss ≡ spot u ∷ spot v ∷ []
Stands ss (l.Charge s) = ss ≡ spot s ∷ []
Stands ss (l.Margin p) = ss ≡ spot p ∷ []
Stands ss (l.Map a c g r) = ss ≡ spot a ∷ spot g ∷ []

-- r is what the fields fs after a word say, and its fields stand where those do
abbrev pub LineOf : Word → List Field → Result Line TextFault → Type 0
LineOf v fs r = (outcome r ≡ reads v (map text fs)) × IfOk r (λ l. Stands (map spot fs) l)

-- the same of what is left of a line after its word
abbrev pub LineAs : Word → Option Field → Result Line TextFault → Type 0
LineAs v o r = (outcome r ≡ reads v (texts_in o)) × IfOk r (λ l. Stands (spots_in o) l)
