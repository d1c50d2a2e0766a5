-- A session: what each line of a script does and is answered with, and what is true of the whole. Assumes nothing.
use Rattle.std.specs.Prelude.{◌≡◌, ℕ, suc, ◌<◌, Bool, true, false, cond, List, [], ◌∷◌, ◌++◌, length, take, drop, Some, None, Option, nat_lt}
use Rattle.analysis.specs.declared.choice.Choice.{Choice}
use Rattle.analysis.specs.declared.row.Row.{Row}
use Rattle.layers.specs.Outcomes.{add_outcome, after_adding, setting}
use Rattle.layers.specs.Outcomes as layer_outcome
use Rattle.layers.specs.Piles.{Alike, Pile, meaning_of}
use Rattle.layers.specs.Piles as pile
use Rattle.layers.specs.declared.pair.Pair.{Pair}
use Rattle.mapping.specs.Courses.{Course, CourseLaw, Event, Mapped, issued, map_answer, no_room, table, unschedulable}
use Rattle.mapping.specs.Courses as call
use Rattle.mapping.specs.Faults.{enter_outcome, strike_outcome}
use Rattle.mapping.specs.Faults as sheet_outcome
use Rattle.mapping.specs.Replies.{last_task}
use Rattle.mapping.specs.declared.plan.PlanLine.{PlanLine}
use Rattle.mapping.specs.declared.plan.Rule.{Rule}
use Rattle.reading.specs.Lines.{lines_of}
use Rattle.reading.specs.Says.{Read, Said, reading_of, says}
use Rattle.reading.specs.Says as said
use Rattle.script.specs.Answers.{plan_text, refusal_text}
use Rattle.script.specs.Refusals.{Refusal, layer, mapping, sheet, text}
use Rattle.std.specs.List.{slice_get}

-- ---- the state

-- what the lines taken so far have made: the calls on the sheet with their answers, the first first; the pairs; charge and margin
pub record State : Type 0 where
  pub course : List Event
  pub pairs : List Pair
  pub charge : ℕ
  pub margin : ℕ

-- before the first line
abbrev pub start : State
start = record { course = []; pairs = []; charge = 0; margin = 0 }

-- the rows that stand
abbrev pub standing : State → List Row
standing s = table s.course

-- what a mapping asks: pairs above margin above charge above the named analysis
abbrev pub pile_of : State → Choice → Pile
pile_of s c = pile.pairs s.pairs (pile.margin s.margin (pile.charge s.charge (pile.named c)))

-- the lines of room that a session has for a plan
abbrev pub plan_room : ℕ
plan_room = 128

-- what a mapping answers
abbrev pub mapped : State → Choice → Rule → Mapped
mapped s c rule = map_answer (meaning_of (pile_of s c)) rule plan_room (standing s)

-- the state with one more call
abbrev pub called : State → Event → State
called s e = record { course = s.course ++ e ∷ []; pairs = s.pairs; charge = s.charge; margin = s.margin }

-- ---- one line

-- what a line is answered with
pub data Reply : Type 0 where
  -- accepted, and nothing is written
  silent : Reply
  -- a plan
  planned : List PlanLine → Reply
  -- a refusal
  refused : Refusal → Reply

-- whether the sheet accepts
abbrev pub accepts : sheet_outcome.Outcome → Bool
accepts sheet_outcome.accepted = true
accepts (sheet_outcome.refused code field) = false

-- the reply by the outcome of a call on the sheet
abbrev pub by_sheet : sheet_outcome.Outcome → Reply
by_sheet sheet_outcome.accepted = silent
by_sheet (sheet_outcome.refused code field) = refused (record { part = sheet; code = code; field = field })

-- the reply by the outcome of a call on a layer
abbrev pub by_layer : layer_outcome.Outcome → Reply
by_layer (layer_outcome.accepted n) = silent
by_layer (layer_outcome.refused code field) = refused (record { part = layer; code = code; field = field })

-- the reply by what a mapping answers
abbrev pub by_mapping : Mapped → Reply
by_mapping (issued ls) = planned ls
by_mapping no_room = refused (record { part = mapping; code = 11; field = 0 })
by_mapping unschedulable = refused (record { part = mapping; code = 12; field = 0 })

-- the setting that was accepted, else the old one
abbrev pub set_by : layer_outcome.Outcome → ℕ → ℕ
set_by (layer_outcome.accepted n) old = n
set_by (layer_outcome.refused code field) old = old

-- the reply to what a line says
abbrev pub reply_said : State → Said → Reply
reply_said s (said.row r) = by_sheet (enter_outcome r (standing s))
reply_said s (said.strike n) = by_sheet (strike_outcome n (standing s))
reply_said s (said.pair u l) = by_layer (add_outcome (record { upper = u; lower = l }) s.pairs)
reply_said s (said.charge n) = by_layer (setting 10000 n)
reply_said s (said.margin n) = by_layer (setting 99 n)
reply_said s (said.mapping c rule) = by_mapping (mapped s c rule)

-- the state after what a line says
abbrev pub after_said : State → Said → State
after_said s (said.row r) = called s (call.entry r (accepts (enter_outcome r (standing s))))
after_said s (said.strike n) = called s (call.strike n (accepts (strike_outcome n (standing s))))
after_said s (said.pair u l) =
    record { course = s.course; pairs = after_adding (record { upper = u; lower = l }) s.pairs; charge = s.charge; margin = s.margin }
after_said s (said.charge n) = record { course = s.course; pairs = s.pairs; charge = set_by (setting 10000 n) s.charge; margin = s.margin }
after_said s (said.margin n) = record { course = s.course; pairs = s.pairs; charge = s.charge; margin = set_by (setting 99 n) s.margin }
after_said s (said.mapping c rule) = called s (call.mapping (meaning_of (pile_of s c)) rule plan_room (mapped s c rule))

-- the reply to a line, as it was read
abbrev pub reply_read : State → Read → Reply
reply_read s (says x) = reply_said s x
reply_read s (said.refused code field) = refused (record { part = text; code = code; field = field })

-- the state after a line, as it was read: a refusal by the text leaves it
abbrev pub after_read : State → Read → State
after_read s (says x) = after_said s x
after_read s (said.refused code field) = s

-- ---- a script

-- the state after some lines, from a state on
abbrev pub runs : State → List (List ℕ) → State
runs s [] = s
runs s (l ∷ ls) = runs (after_read s (reading_of l)) ls

-- the state after the first k lines of a script
abbrev pub state_after : List ℕ → ℕ → State
state_after script k = runs start (take k (lines_of script))

-- the reply to a line, where there is one
abbrev pub reply_to : State → Option (List ℕ) → Option Reply
reply_to s None = None
reply_to s (Some l) = Some (reply_read s (reading_of l))

-- the reply to the line of a script after the first k; none where it has no more
abbrev pub reply_at : List ℕ → ℕ → Option Reply
reply_at script k = reply_to (state_after script k) (slice_get (lines_of script) k)

-- the text of an answer to the line of a number
abbrev pub answer_text : ℕ → Reply → List ℕ
answer_text line silent = []
answer_text line (planned ls) = plan_text line (last_task 0 ls) (length ls) ls
answer_text line (refused r) = refusal_text line r.field r.code

-- the answers to some lines, from a state and a line number on, one after the other
abbrev pub answers_from : State → ℕ → List (List ℕ) → List ℕ
answers_from s n [] = []
answers_from s n (l ∷ ls) = answer_text n (reply_read s (reading_of l)) ++ answers_from (after_read s (reading_of l)) (suc n) ls

-- the answers to the lines of a script after the first k
abbrev pub answers_after : List ℕ → ℕ → List ℕ
answers_after script k = answers_from (state_after script k) (suc k) (drop k (lines_of script))

-- all that is written for a script: one refusal where it has more than 65,536 bytes, else the answers to its lines
abbrev pub output : List ℕ → List ℕ
output script = cond (nat_lt 65536 (length script)) (refusal_text 0 0 13) (answers_from start 1 (lines_of script))

-- ---- what is true of a script's calls on the sheet

-- the calls that the first k lines of a script make are a course, and its law holds whole
pub record ScriptLaw (script : List ℕ) (k : ℕ) : Type 0 where
  pub course : Course (state_after script k).course
  pub law : CourseLaw (state_after script k).course

-- ---- what is true between two lines of a script

-- what is read of a line, where there is one
abbrev pub read_of : Option (List ℕ) → Option Read
read_of None = None
read_of (Some l) = Some (reading_of l)

-- the line of a script after the first k says x, and p is the reply to it
pub record LineAt (script : List ℕ) (k : ℕ) (x : Said) (p : Reply) : Type 0 where
  pub reads : read_of (slice_get (lines_of script) k) ≡ Some (says x)
  pub replies : reply_at script k ≡ Some p

-- between a line that was answered with a plan and a later one that is unschedulable under an alike pile, a row line was accepted
abbrev pub RowBetween : List ℕ → Type 0
RowBetween script =
    (i j : ℕ) (a b : Choice) (rule other : Rule) (ls : List PlanLine) → i < j → LineAt script i (said.mapping a rule) (planned ls) →
    LineAt script j (said.mapping b other) (by_mapping unschedulable) → Alike (pile_of (state_after script i) a) (pile_of (state_after script j) b) →
    (k : ℕ) × ((i < k) × ((k < j) × ((r : Row) × LineAt script k (said.row r) silent)))
