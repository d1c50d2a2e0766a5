-- What a field and a reader stand for. Assumes nothing.
use Rattle.std.specs.Prelude.{◌≡◌, ℕ, ◌+◌, ◌^◌, ◌<◌, ◌≤◌, List, [], length, drop, Some, None, Option}
use Rattle.reading.specs.Lines.{Spot, fields_of, spots, before, after}
use Rattle.reading.specs.declared.field.Field.{Field}
use Rattle.reading.specs.declared.reader.Reader.{Reader}

-- the bytes of a field
abbrev pub text : Field → List ℕ
text f = f.bytes.now

-- the bytes of a field, and its place
abbrev pub spot : Field → Spot
spot f = record { place = f.place; text = f.bytes.now }

-- the fields of a line, with their places
abbrev pub fields_at : Spot → List Spot
fields_at s = spots s.place (fields_of s.text)

-- the same of what is left of a line; none where nothing is left
abbrev pub spots_in : Option Field → List Spot
spots_in None = []
spots_in (Some f) = fields_at (spot f)

-- their bytes
abbrev pub texts_in : Option Field → List (List ℕ)
texts_in None = []
texts_in (Some f) = fields_of (text f)

-- it ends at a place that a `usize` can hold
abbrev pub Inside : Option Field → Type 0
Inside None = Unit {0}
Inside (Some f) = f.place + length (text f) < 2 ^ 64

-- what a reader has not read yet
abbrev pub left : Reader → List ℕ
left r = drop r.place r.script.now

-- the next line, with its place, where there is one
abbrev pub next_spot : Reader → Spot
next_spot r = record { place = r.place; text = before 10 (left r) }

-- the second reader is the first after one line more
pub record Advances (r s : Reader) : Type 0 where
  pub script : s.script.now ≡ r.script.now
  pub rest : left s ≡ after 10 (left r)
  pub further : r.place < s.place
  pub within : s.place ≤ length r.script.now
