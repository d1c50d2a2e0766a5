-- The sheet and the pile of a session, held to the state that they stand for. Assumes nothing.
use Rattle.std.specs.Prelude.{◌≡◌, ℕ, ◌≤◌, List, [], length, take, Some, None, Ok, Err, Option, Result}
use Rattle.layers.specs.Lists.{pairs_of}
use Rattle.mapping.specs.Replies.{Bounded, last_task}
use Rattle.mapping.specs.Rows.{rows_of}
use Rattle.mapping.specs.declared.plan.Issued.{Issued}
use Rattle.mapping.specs.declared.plan.PlanLine.{PlanLine}
use Rattle.reading.specs.Says.{Read, Said}
use Rattle.script.specs.Refusals.{refusal_of}
use Rattle.script.specs.Answers.{plan_text, refusal_text}
use Rattle.script.specs.Sessions.{Reply, State, after_read, after_said, planned, refused, reply_read, reply_said, silent, standing}
use Rattle.script.specs.declared.fault.Fault.{Fault}
use Rattle.script.specs.declared.workspace.Workspace.{Workspace}

-- the sheet has the rows that stand, and the layers have the pairs and settings
pub record Matches (w : Workspace) (s : State) : Type 0 where
  pub rows : rows_of w.sheet ≡ standing s
  pub pairs : pairs_of w.pile.pairs ≡ s.pairs
  pub charge : w.pile.below.below.ticks.value ≡ s.charge
  pub margin : w.pile.below.percent.value ≡ s.margin

-- the outcome is the reply; a plan's lines stand at the front of some lines, and their numbers are in their bounds
abbrev pub Replies : Reply → Result (Option Issued) Fault → List PlanLine → Type 0
Replies silent r ls = r ≡ Ok None
Replies (planned ps) r ls =
    (r ≡ Ok (Some (record { tasks = last_task 0 ps; lines = length ps }))) × ((take (length ps) ls ≡ ps) × Bounded ps)
Replies (refused x) r ls = (e : Fault) × ((r ≡ Err e) × (refusal_of e ≡ x))

-- from every state that the first workspace stands for, the second stands for the state after what a line says, and the outcome is its reply
pub record Obeys (w : Workspace) (x : Said) (w' : Workspace) (r : Result (Option Issued) Fault) (ls : List PlanLine) : Type 0 where
  pub after : (s : State) → Matches w s → Matches w' (after_said s x)
  pub reply : (s : State) → Matches w s → Replies (reply_said s x) r ls

-- the same of a line as it was read
pub record Takes (w : Workspace) (x : Read) (w' : Workspace) (r : Result (Option Issued) Fault) (ls : List PlanLine) : Type 0 where
  pub after : (s : State) → Matches w s → Matches w' (after_read s x)
  pub reply : (s : State) → Matches w s → Replies (reply_read s x) r ls

-- the text of an outcome, whose plan stands at the front of some lines
abbrev pub outcome_text : ℕ → Result (Option Issued) Fault → List PlanLine → List ℕ
outcome_text line (Ok None) ls = []
outcome_text line (Ok (Some i)) ls = plan_text line i.tasks i.lines (take i.lines ls)
outcome_text line (Err e) ls = refusal_text line (refusal_of e).field (refusal_of e).code

-- a plan's lines are there, and its numbers are in their bounds
abbrev pub Fitting : Result (Option Issued) Fault → List PlanLine → Type 0
Fitting (Ok None) ls = Unit {0}
Fitting (Ok (Some i)) ls = (i.tasks ≤ 128) × ((i.lines ≤ length ls) × Bounded (take i.lines ls))
Fitting (Err e) ls = Unit {0}
