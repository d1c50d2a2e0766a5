-- What a session's call answers, and what it leaves in the room. Assumes nothing.
use Rattle.std.specs.Prelude.{ℕ, suc, ◌≤◌, cond, List, ◌++◌, length, drop, Some, None, Ok, Err, Option, Result, nat_lt}
use Rattle.mapping.specs.Replies.{last_task}
use Rattle.mapping.specs.declared.plan.Issued.{Issued}
use Rattle.script.specs.Refusals.{Refusal, refusal_of}
use Rattle.script.specs.Sessions.{Reply, answer_text, planned, reply_at, silent}
use Rattle.script.specs.Sessions as reply
use Rattle.script.specs.declared.fault.Fault.{Fault}
use Rattle.script.specs.declared.fault.SessionFault.{SessionFault}
use Rattle.script.specs.declared.fault.SessionFault.TheVariants.{Room}
use Rattle.script.specs.declared.turn.Answered.{Answered}

-- what is told of a line: accepted, the counts of tasks and lines of a plan, or a refusal
pub data Told : Type 0 where
  quiet : Told
  counted : (tasks lines : ℕ) → Told
  refused : Refusal → Told

-- what is told of a reply
abbrev pub told_by : Reply → Told
told_by silent = quiet
told_by (planned ls) = counted (last_task 0 ls) (length ls)
told_by (reply.refused r) = refused r

-- what the code's outcome tells
abbrev pub told_of : Result (Option Issued) Fault → Told
told_of (Ok None) = quiet
told_of (Ok (Some i)) = counted i.tasks i.lines
told_of (Err e) = refused (refusal_of e)

-- what a session's call answers
pub data Turn : Type 0 where
  -- the room has fewer than 4,096 bytes
  short_room : Turn
  -- no line is left
  no_more : Turn
  -- the line of this number was answered with so many bytes
  answered : (line bytes : ℕ) → Told → Turn

-- the code's answer, by what it says
abbrev pub turn_of : Result (Option Answered) SessionFault → Turn
turn_of (Err Room) = short_room
turn_of (Ok None) = no_more
turn_of (Ok (Some a)) = answered a.line a.bytes (told_of a.outcome)

-- the answer by the reply to the line after the first k
abbrev pub turn_by : ℕ → Option Reply → Turn
turn_by k None = no_more
turn_by k (Some p) = answered (suc k) (length (answer_text (suc k) p)) (told_by p)

-- what a call answers, after k lines of a script, with a room of n bytes
abbrev pub turn : List ℕ → ℕ → ℕ → Turn
turn script k n = cond (nat_lt n 4096) short_room (turn_by k (reply_at script k))

-- the room with the reply's text before what stood behind it
abbrev pub written_by : ℕ → Option Reply → List ℕ → List ℕ
written_by k None room = room
written_by k (Some p) room = answer_text (suc k) p ++ drop (length (answer_text (suc k) p)) room

-- the room after a call
abbrev pub room_after : List ℕ → ℕ → List ℕ → List ℕ
room_after script k room = cond (nat_lt (length room) 4096) room (written_by k (reply_at script k) room)

-- how many lines are taken, by the reply
abbrev pub taken_by : ℕ → Option Reply → ℕ
taken_by k None = k
taken_by k (Some p) = suc k

-- how many lines are taken after a call
abbrev pub taken_after : List ℕ → ℕ → ℕ → ℕ
taken_after script k n = cond (nat_lt n 4096) k (taken_by k (reply_at script k))

-- what was written lies in a room of n bytes
abbrev pub Within : Result (Option Answered) SessionFault → ℕ → Type 0
Within (Err e) n = Unit {0}
Within (Ok None) n = Unit {0}
Within (Ok (Some a)) n = a.bytes ≤ n
