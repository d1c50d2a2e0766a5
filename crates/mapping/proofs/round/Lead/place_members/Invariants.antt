use Rattle.std.proofs.Common.{◌≡◌, suc, ◌+◌, ◌≤◌, ◌++◌, length, drop}
use Rattle.mapping.specs.Plans.{lines_from, placed}
use Rattle.mapping.specs.Rounds.{led}
use Rattle.mapping.proofs.round.Lead.place_members.Given as goal

-- what was placed and what is still to be placed make up the members
abbrev pub invariant-loop-c : goal.invariant-loop-c
invariant-loop-c l =
    let rest = led l.self (drop l.c-index l.found) in
    (l.place ≤ l.c-index) × (length l.lines.items ≤ length l.initial.lines.items + l.c-index) ×
    (l.lines.items ++ lines_from l.task (suc l.place) rest ≡ l.initial.lines.items ++ lines_from l.task 1 (led l.self l.found)) ×
    (placed rest l.marks ≡ placed (led l.self l.found) l.initial.marks)
