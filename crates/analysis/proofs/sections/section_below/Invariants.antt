use Rattle.std.proofs.Common.{◌≡◌, max, drop, length}
use Rattle.analysis.specs.Responses.{section_below}
use Rattle.analysis.proofs.sections.section_below.Given as goal

-- the longest so far with those of the rows that are left
abbrev pub invariant-loop-row : goal.invariant-loop-row
invariant-loop-row l =
    let n = length l.yielded in
    max l.longest (section_below (drop n l.rows) (drop n l.marks)) ≡ section_below l.rows l.marks
