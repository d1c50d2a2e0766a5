-- Laws of answers and refusals, in the subject's own words. Assumes nothing.
use Rattle.std.specs.Prelude.{◌≡◌, ℕ, ◌^◌, ◌<◌, ◌≤◌, List, length}
use Rattle.mapping.specs.Replies.{Bounded}
use Rattle.mapping.specs.declared.plan.PlanLine.{PlanLine}
use Rattle.script.specs.Answers.{refusal_text, plan_text}
use Rattle.script.specs.Refusals.{refusal_of}
use Rattle.script.specs.declared.fault.Fault.{Fault}

-- a refusal of numbers of 32 bits fits 4,096 bytes
abbrev pub RefusalFits : Type 0
RefusalFits = (line field code : ℕ) → line < 2 ^ 32 → field < 2 ^ 32 → code < 2 ^ 32 → length (refusal_text line field code) ≤ 4096

-- a plan that a mapping issues fits 4,096 bytes
abbrev pub PlanFits : Type 0
PlanFits = (line tasks rows : ℕ) (ls : List PlanLine) → line ≤ 65536 → tasks ≤ 128 → rows ≤ 128 → Bounded ls → length (plan_text line tasks rows ls) ≤ 4096

-- faults of the same part, code and field are the same fault
abbrev pub RefusalsTell : Type 0
RefusalsTell = (a b : Fault) → refusal_of a ≡ refusal_of b → a ≡ b
