-- The lines of a task. Assumes nothing.
use Rattle.std.specs.Prelude.{◌≡◌, ℕ, ◌+◌, ◌<◌, ◌≤◌, Bool, List, length, take, drop, ◌==◌, ◌≢◌, nat_lt, slice_index_or}
use Rattle.mapping.specs.Lines.{no_line}
use Rattle.mapping.specs.declared.plan.PlanLine.{PlanLine}
use Rattle.ordered.specs.Tests.{first_place}
use Rattle.std.specs.List.{prefix_len, AllByRecursion}
use Rattle.tasks.specs.Answers.{Answer, found, refused_if}

-- ---- by computation

-- the line has the task k
abbrev pub has_task : ℕ → PlanLine → Bool
has_task k l = l.task == k

-- where the first line of the task k stands; the length where there is none
abbrev pub run_start : ℕ → List PlanLine → ℕ
run_start k ls = first_place (has_task k) ls

-- how many lines from there on have the task without a break
abbrev pub run_length : ℕ → List PlanLine → ℕ
run_length k ls = prefix_len (has_task k) (drop (run_start k ls) ls)

-- the first unbroken run of lines of the task k
abbrev pub run_of : ℕ → List PlanLine → List PlanLine
run_of k ls = take (run_length k ls) (drop (run_start k ls) ls)

-- what a call that asks for the run answers: at most 128 lines may be given, and one of them has the task
abbrev pub run_answer : ℕ → List PlanLine → Answer (List PlanLine)
run_answer k ls = refused_if (nat_lt 128 (length ls)) 7 (refused_if (length (run_of k ls) == 0) 15 (found (run_of k ls)))

-- ---- in words

-- no line has the task k
abbrev pub NoLine : ℕ → List PlanLine → Type 0
NoLine k ls = AllByRecursion (λ l. l.task ≢ k) ls

-- the n lines from the place i on are the first unbroken run of the task k
pub record FirstRun (k : ℕ) (ls : List PlanLine) (i n : ℕ) : Type 0 where
  pub within : i + n ≤ length ls
  -- it has a line, and each line of it has the task
  pub some : 1 ≤ n
  pub unbroken : (j : ℕ) → j < n → (slice_index_or ls (i + j) no_line).task ≡ k
  -- no line before it has the task
  pub first : (j : ℕ) → j < i → (slice_index_or ls j no_line).task ≢ k
  -- nor has the line after it, where there is one
  pub longest : i + n < length ls → (slice_index_or ls (i + n) no_line).task ≢ k

-- a part of the lines is the first unbroken run of the task k: where it begins, how long it is, and that no other part is
pub record RunIs (k : ℕ) (ls part : List PlanLine) : Type 0 where
  pub begins : ℕ
  pub is : part ≡ take (length part) (drop begins ls)
  pub first_run : FirstRun k ls begins (length part)
  pub no_other : (i n : ℕ) → FirstRun k ls i n → (i ≡ begins) × (n ≡ length part)
  -- each of its lines has the task
  pub each : AllByRecursion (λ l. l.task ≡ k) part
