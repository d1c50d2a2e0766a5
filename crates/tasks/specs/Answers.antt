-- The codes of the faults, and what a question about a task is answered with. Assumes nothing.
use Rattle.std.specs.Prelude.{ℕ, Bool, cond, Ok, Err, Result}
use Rattle.tasks.specs.declared.fault.TaskFault.{TaskFault}
use Rattle.tasks.specs.declared.fault.TaskFault.TheVariants.{Lines, Activation, Missing, Absent}

-- what was asked for, or a code with the field that it names, 0 where it names none
pub data Answer (X : Type 0) : Type 0 where
  found : X → Answer X
  refused : (code field : ℕ) → Answer X

-- the code of each fault
abbrev pub task_code : TaskFault → ℕ
task_code Lines = 7
task_code Activation = 3
task_code Missing = 6
task_code Absent = 15

-- no fault names a field
abbrev pub task_field : TaskFault → ℕ
task_field Lines = 0
task_field Activation = 0
task_field Missing = 0
task_field Absent = 0

-- the code's answer, by what it says, where a function tells the value
abbrev pub answer_of : {X Y : Type 0} → (X → Y) → Result X TaskFault → Answer Y
answer_of value (Ok x) = found (value x)
answer_of value (Err e) = refused (task_code e) (task_field e)

-- refused with a code where the test holds, else the rest
abbrev pub refused_if : {X : Type 0} → Bool → ℕ → Answer X → Answer X
refused_if test code rest = cond test (refused code 0) rest
