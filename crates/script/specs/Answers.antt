-- The text of an answer, and what it is to put and to write a text into a room. Assumes nothing.
use Rattle.std.specs.Prelude.{◌≡◌, ℕ, ◌+◌, List, [], ◌∷◌, ◌++◌, length, take, drop, codes, decimal}
use Rattle.mapping.specs.declared.plan.PlanLine.{PlanLine}
use Rattle.std.specs.List.{flat_map}

-- a comma and a number
abbrev pub item : ℕ → List ℕ
item n = 44 ∷ decimal n

-- three numbers, each after a comma, and byte 10
abbrev pub items : ℕ → ℕ → ℕ → List ℕ
items a b c = item a ++ item b ++ item c ++ (10 ∷ [])

-- the text of a refusal
abbrev pub refusal_text : (line field code : ℕ) → List ℕ
refusal_text line field code = codes "refused" ++ items line field code

-- the text of one line of a plan
abbrev pub line_text : PlanLine → List ℕ
line_text l = decimal l.task ++ items l.place l.number l.response

-- the text of a plan: its head, and then its lines
abbrev pub plan_text : (line tasks rows : ℕ) → List PlanLine → List ℕ
plan_text line tasks rows ls = codes "plan" ++ items line tasks rows ++ flat_map line_text ls

-- the text t was put into a room from the place p up to the place n, and nothing else changed
abbrev pub Puts : (room : List ℕ) (p : ℕ) (t : List ℕ) (n : ℕ) (after : List ℕ) → Type 0
Puts room p t n after = (n ≡ p + length t) × (after ≡ take p room ++ (t ++ drop n room))

-- the text t was put at the front of a room, n bytes of it, and nothing else changed
abbrev pub Writes : (room t : List ℕ) (n : ℕ) (after : List ℕ) → Type 0
Writes room t n after = (n ≡ length t) × (after ≡ t ++ drop (length t) room)
