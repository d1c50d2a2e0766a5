use Rattle.std.proofs.Common.{◌≡◌, take, drop}
use Rattle.mapping.specs.Rows.{rows_of}
use Rattle.std.specs.List.{list_all}
use Rattle.tasks.specs.Members.{members, stands}
use Rattle.tasks.proofs.members.named.Given as goal

-- the rows so far are those of the lines so far, and whether all stand depends on the lines still to come
abbrev pub invariant-loop-line : goal.invariant-loop-line
invariant-loop-line l =
    (l.rows.items ≡ members (rows_of l.sheet) (take l.line-index l.lines)) ×
    (list_all (stands (rows_of l.sheet)) l.lines ≡ list_all (stands (rows_of l.sheet)) (drop l.line-index l.lines))
