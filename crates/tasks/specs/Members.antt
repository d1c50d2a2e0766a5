-- The members of a task: the rows that the lines of its run name. Assumes nothing.
use Rattle.std.specs.Prelude.{ℕ, ◌≤◌, Bool, not, List, map, length, ◌==◌, nat_lt}
use Rattle.analysis.specs.Questions.{row_at}
use Rattle.analysis.specs.Ranges.{InRange, kept_cost}
use Rattle.analysis.specs.declared.row.Row.{Row}
use Rattle.mapping.specs.Sheets.{has_number, place_of}
use Rattle.mapping.specs.declared.plan.PlanLine.{PlanLine}
use Rattle.std.specs.List.{AllByRecursion, list_all}
use Rattle.tasks.specs.Answers.{Answer, found, refused_if}
use Rattle.tasks.specs.Runs.{run_of}

-- a row of the line's number stands
abbrev pub stands : List Row → PlanLine → Bool
stands t l = has_number l.number t

-- the row of the line's number
abbrev pub row_of : List Row → PlanLine → Row
row_of t l = row_at t (place_of l.number t)

-- the rows of some lines, one for each line
abbrev pub members : List Row → List PlanLine → List Row
members t ls = map (row_of t) ls

-- the members of the task k, or why they cannot be had: at most 128 lines may be given, the rows of the run stand, and it has a line
abbrev pub members_answer : List Row → ℕ → List PlanLine → Answer (List Row)
members_answer t k ls =
    refused_if (nat_lt 128 (length ls)) 7
    (refused_if (not (list_all (stands t) (run_of k ls))) 6
    (refused_if (length (run_of k ls) == 0) 15
    (found (members t (run_of k ls)))))

-- at least one row and at most 128, each with its values in their ranges
pub record Ranged (ms : List Row) : Type 0 where
  pub some : 1 ≤ length ms
  pub few : length ms ≤ 128
  pub each : AllByRecursion (InRange kept_cost) ms
