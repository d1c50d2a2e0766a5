-- A session: its script, and how many lines it took. Assumes nothing.
use Rattle.std.specs.Prelude.{◌≡◌, ℕ, ◌<◌, ◌≤◌, List, length, Ok, Err, Result}
use Rattle.script.specs.Refusals.{refusal_of, reader}
use Rattle.script.specs.declared.fault.BeginFault.{BeginFault}
use Rattle.script.specs.declared.fault.BeginFault.TheVariants.{Refused, Memory}
use Rattle.script.specs.declared.session.Session.{Session}

-- the script of a session
abbrev pub script_of : Session → List ℕ
script_of s = s.reader.script.now

-- how many lines it took
abbrev pub taken_of : Session → ℕ
taken_of s = s.taken

-- a session of the script with nothing taken; code 13 exactly where the script has more than 65,536 bytes; else there was no memory
abbrev pub Begins : List ℕ → Result Session BeginFault → Type 0
Begins script (Ok s) = (length script ≤ 65536) × ((script_of s ≡ script) × (taken_of s ≡ 0))
Begins script (Err (Refused e)) = (65536 < length script) × (refusal_of e ≡ record { part = reader; code = 13; field = 0 })
Begins script (Err Memory) = length script ≤ 65536
