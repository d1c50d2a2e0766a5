-- Courses of calls on one sheet, and what is true of each as a whole. Assumes nothing.
use Rattle.std.specs.Prelude.{◌≡◌, ℕ, ◌<◌, ◌≤◌, Bool, true, false, cond, ◌↔◌, List, [], ◌∷◌, ◌++◌, length, Some, None, Option, ◌==◌, ◌≢◌, nat_lt}
use Rattle.std.specs.List.{AllByRecursion}
use Rattle.analysis.specs.Laws.{Lawful, OnTimeBy}
use Rattle.analysis.specs.Questions.{Fair, Meaning, row_at}
use Rattle.analysis.specs.Ranges.{InRange, kept_cost}
use Rattle.analysis.specs.declared.row.Mark.{Mark}
use Rattle.analysis.specs.declared.row.Row.{Row}
use Rattle.ordered.specs.Keys.{inserted_by}
use Rattle.mapping.specs.Lines.{LinesOf, line_at, plan_order}
use Rattle.mapping.specs.Orders.{Holds, Order, Schedulable, Stands, marks_in}
use Rattle.mapping.specs.PlanLaw.{PlanOf}
use Rattle.mapping.specs.Plans.{plan}
use Rattle.mapping.specs.declared.plan.PlanLine.{PlanLine}
use Rattle.mapping.specs.declared.plan.Rule.{Rule}

-- ---- calls on a sheet

-- what a mapping answers
pub data Mapped : Type 0 where
  -- the lines of a plan
  issued : List PlanLine → Mapped
  -- fewer lines of room than rows stand
  no_room : Mapped
  -- no plan has every row on time
  unschedulable : Mapped

-- a call on a sheet, with its answer
pub data Event : Type 0 where
  -- a row to enter, and whether it was accepted
  entry : Row → Bool → Event
  -- the number of a row to strike, and whether that was accepted
  strike : ℕ → Bool → Event
  -- a mapping under an analysis and a rule, with so many lines of room, and what it answered
  mapping : Meaning → Rule → ℕ → Mapped → Event

-- ---- the table, call by call

-- the table with the row in its place by deadline, after the rows of an equal one
abbrev pub entered : Row → List Row → List Row
entered r t = inserted_by (λ (s : Row). s.deadline) r t

-- the table without the row of the number
abbrev pub struck : ℕ → List Row → List Row
struck n [] = []
struck n (s ∷ t) = cond (s.number == n) (struck n t) (s ∷ struck n t)

-- the table after a call
abbrev pub after : List Row → Event → List Row
after t (entry r true) = entered r t
after t (entry r false) = t
after t (strike n true) = struck n t
after t (strike n false) = t
after t (mapping v rule room o) = t

-- the table after some calls, the first call first
abbrev pub tables : List Row → List Event → List Row
tables t [] = t
tables t (e ∷ es) = tables (after t e) es

-- the table of a new sheet after some calls
abbrev pub table : List Event → List Row
table es = tables [] es

-- ---- which calls can come next

-- an entry is accepted: its values are in their ranges, its number is new, and fewer than 128 rows stand
pub record Accepts (t : List Row) (r : Row) : Type 0 where
  pub ranges : InRange kept_cost r
  pub new : Stands t r.number → ⊥
  pub free : length t < 128

-- what a mapping answers where there is a plan, and where there is none
abbrev pub planned : Option (List PlanLine) → Mapped
planned (Some ls) = issued ls
planned None = unschedulable

-- what a mapping answers on a table
abbrev pub map_answer : Meaning → Rule → ℕ → List Row → Mapped
map_answer v rule room t = cond (nat_lt room (length t)) no_room (planned (plan v rule t))

-- the call answers on the table as it is defined to, and a mapping's analysis keeps the laws
abbrev pub Answers : List Row → Event → Type 0
Answers t (entry r true) = Accepts t r
Answers t (entry r false) = Accepts t r → ⊥
Answers t (strike n true) = Stands t n
Answers t (strike n false) = Stands t n → ⊥
Answers t (mapping v rule room o) = Lawful v × (o ≡ map_answer v rule room t)

-- a course of calls on one sheet from new, each answered as it is defined to
pub data Course : List Event → Type 0 where
  new : Course []
  then : (es : List Event) (e : Event) → Course es → Answers (table es) e → Course (es ++ e ∷ [])

-- ---- which rows stand, said of the calls

-- no call among these is an accepted strike of the number
abbrev pub Unstruck : ℕ → List Event → Type 0
Unstruck n es = AllByRecursion (λ e. e ≢ strike n true) es

-- an accepted entry of the row lies in the course, with no accepted strike of its number after it
pub record StandsAfter (es : List Event) (r : Row) : Type 0 where
  pub before : List Event
  pub since : List Event
  pub course : es ≡ before ++ entry r true ∷ since
  pub unstruck : Unstruck r.number since

-- both rows stand after the course, and the first was entered before the second
pub record EnteredBefore (es : List Event) (r s : Row) : Type 0 where
  pub before : List Event
  pub between : List Event
  pub since : List Event
  pub course : es ≡ before ++ entry r true ∷ (between ++ entry s true ∷ since)
  pub first_unstruck : Unstruck r.number (between ++ entry s true ∷ since)
  pub second_unstruck : Unstruck s.number since

-- the table has the rows that stand after the course, by deadline and then by entry
pub record Standing (es : List Event) (t : List Row) : Type 0 where
  -- a row is in the table exactly where an accepted entry of it lies in the course with no accepted strike of its number after it
  pub rows : (r : Row) → Holds t r ↔ StandsAfter es r
  -- no row has a later deadline than one after it
  pub ascending : (i j : ℕ) → i < j → j < length t → (row_at t i).deadline ≤ (row_at t j).deadline
  -- of two rows of equal deadline, the one that was entered earlier comes first
  pub earlier_first : (i j : ℕ) → i < j → j < length t → (row_at t i).deadline ≡ (row_at t j).deadline → EnteredBefore es (row_at t i) (row_at t j)

-- the limits of a table: at most 128 rows, each with its values in their ranges and a number of its own
pub record Limits (t : List Row) : Type 0 where
  pub few : length t ≤ 128
  pub ranges : (i : ℕ) → i < length t → InRange kept_cost (row_at t i)
  pub apart : (i j : ℕ) → i < length t → j < length t → (row_at t i).number ≡ (row_at t j).number → i ≡ j

-- ---- what a mapping's answer says

-- a plan for a table that keeps its promises under an analysis
pub record Keeps (v : Meaning) (t : List Row) (ls : List PlanLine) : Type 0 where
  -- each standing row has one line, by task and then by place, both numbered from 1 without a gap
  pub lines : LinesOf t ls
  -- the lines put the rows into one order, in which each row is on time by its line's response
  pub order : Order t (plan_order ls)
  pub on_time : (i : ℕ) → i < length t → OnTimeBy (line_at ls t i).response (v t (marks_in (plan_order ls) t i) i)
  -- the response lies between the row's cost and its deadline
  pub bounds : (i : ℕ) → i < length t → ((row_at t i).cost ≤ (line_at ls t i).response) × ((line_at ls t i).response ≤ (row_at t i).deadline)

-- what is true of lines that are issued
pub record IssuedLaw (v : Meaning) (rule : Rule) (t : List Row) (ls : List PlanLine) : Type 0 where
  -- they are the plan of the rows, as its steps make it
  pub by_steps : plan v rule t ≡ Some ls
  -- and as its law says, and no other lines are
  pub by_law : PlanOf v rule t ls
  pub no_other : (other : List PlanLine) → PlanOf v rule t other → other ≡ ls
  -- and the plan keeps its promises
  pub keeps : Keeps v t ls

-- what is true of a mapping's answer on a table, with so many lines of room
pub record AnswerLaw (v : Meaning) (rule : Rule) (room : ℕ) (t : List Row) (o : Mapped) : Type 0 where
  -- there is no room exactly where there are fewer lines of room than rows
  pub crowded : (o ≡ no_room) ↔ (room < length t)
  -- with a line of room for each row, the rows are unschedulable exactly where no order of them has every row on time
  pub unordered : length t ≤ room → (o ≡ unschedulable) ↔ (Schedulable v t → ⊥)
  -- and otherwise a plan is issued
  pub otherwise : length t ≤ room → (o ≢ unschedulable) → (ls : List PlanLine) × ((o ≡ issued ls) × Schedulable v t)
  -- then lines are issued exactly where they are the plan of the rows by its law
  pub issues : length t ≤ room → (ls : List PlanLine) → (o ≡ issued ls) ↔ PlanOf v rule t ls
  -- whatever the room, rows found unschedulable have no order with every row on time
  pub refused : o ≡ unschedulable → Schedulable v t → ⊥
  -- and lines that are issued are the plan of the rows
  pub plans : (ls : List PlanLine) → o ≡ issued ls → IssuedLaw v rule t ls

-- ---- what is true of a course

-- two analyses that give every question the same verdict
abbrev pub Same : Meaning → Meaning → Type 0
Same v u = (t : List Row) (m : List Mark) (i : ℕ) → Fair t m i → v t m i ≡ u t m i

-- what is true of a course
pub record CourseLaw (es : List Event) : Type 0 where
  -- at each point of the course the sheet's table, and no other, has the rows that stand in their order
  pub standing : (xs ys : List Event) → es ≡ xs ++ ys → (t : List Row) → Standing xs t ↔ (t ≡ table xs)
  -- and it is within the limits
  pub limits : (xs ys : List Event) → es ≡ xs ++ ys → Limits (table xs)
  -- an entry is accepted exactly where its values are in their ranges, its number is new and fewer than 128 rows stand
  pub entries : (xs ys : List Event) (r : Row) (b : Bool) → es ≡ xs ++ entry r b ∷ ys → (b ≡ true) ↔ Accepts (table xs) r
  -- a strike is accepted exactly where a row of its number stands
  pub strikes : (xs ys : List Event) (n : ℕ) (b : Bool) → es ≡ xs ++ strike n b ∷ ys → (b ≡ true) ↔ Stands (table xs) n
  -- each mapping answers by the law on the rows that stand
  pub mappings :
      (xs ys : List Event) (v : Meaning) (rule : Rule) (room : ℕ) (o : Mapped) → es ≡ xs ++ mapping v rule room o ∷ ys →
      AnswerLaw v rule room (table xs) o
  -- between an issued mapping and a later unschedulable one under the same analysis, a row was entered that still stands
  pub between :
      (xs ys zs : List Event) (v u : Meaning) (rule other : Rule) (room space : ℕ) (ls : List PlanLine) →
      es ≡ xs ++ mapping v rule room (issued ls) ∷ (ys ++ mapping u other space unschedulable ∷ zs) → Same v u → (r : Row) × StandsAfter ys r

-- a call with this answer takes a sheet from one table to another and keeps the law, whatever course led to the first table
pub record Continues (t : List Row) (e : Event) (t' : List Row) : Type 0 where
  -- the course with this call is a course
  pub course : (es : List Event) → Course es → table es ≡ t → Course (es ++ e ∷ [])
  -- its table is the second one
  pub leads : (es : List Event) → Course es → table es ≡ t → table (es ++ e ∷ []) ≡ t'
  -- and the course law holds of it whole
  pub law : (es : List Event) → Course es → table es ≡ t → CourseLaw (es ++ e ∷ [])
