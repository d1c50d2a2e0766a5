-- What a mapping replies, and what it leaves in the room for lines. Assumes nothing.
use Rattle.std.specs.Prelude.{ℕ, ◌≤◌, List, [], ◌∷◌, ◌++◌, length, drop, Ok, Err, Result}
use Rattle.mapping.specs.Courses.{Mapped, issued, no_room, unschedulable}
use Rattle.mapping.specs.Faults.{map_code, map_field}
use Rattle.mapping.specs.declared.fault.MapFault.{MapFault}
use Rattle.mapping.specs.declared.plan.Issued.{Issued}
use Rattle.mapping.specs.declared.plan.PlanLine.{PlanLine}
use Rattle.std.specs.List.{AllByRecursion}

-- the counts of tasks and lines, or a code with the field that it names, 0 where it names none
pub data Reply : Type 0 where
  counts : ℕ → ℕ → Reply
  refused : ℕ → ℕ → Reply

-- the task of the last line, n where there is none
abbrev pub last_task : ℕ → List PlanLine → ℕ
last_task n [] = n
last_task n (l ∷ ls) = last_task l.task ls

-- the reply to a mapping, from its answer: tasks are numbered from 1, so the last line's task is their count
abbrev pub reply : Mapped → Reply
reply (issued ls) = counts (last_task 0 ls) (length ls)
reply no_room = refused 11 0
reply unschedulable = refused 12 0

-- the code's answer, by what it says
abbrev pub reply_of : Result Issued MapFault → Reply
reply_of (Ok i) = counts i.tasks i.lines
reply_of (Err e) = refused (map_code e) (map_field e)

-- the room after a mapping: the lines of a plan that is issued, before what stood behind them
abbrev pub written : Mapped → List PlanLine → List PlanLine
written (issued ls) old = ls ++ drop (length ls) old
written no_room old = old
written unschedulable old = old

-- a line of a plan for a sheet has small numbers
pub record Modest (l : PlanLine) : Type 0 where
  pub task : l.task ≤ 128
  pub place : l.place ≤ 128
  pub number : l.number ≤ 65535
  pub response : l.response ≤ 1000000

-- a plan for a sheet has at most 128 lines, each with small numbers
pub record Bounded (ls : List PlanLine) : Type 0 where
  pub few : length ls ≤ 128
  pub each : AllByRecursion Modest ls
