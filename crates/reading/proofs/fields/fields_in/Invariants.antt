use Rattle.std.proofs.Common.{◌≡◌, ◌++◌, map, take}
use Rattle.reading.specs.Reading.{spot, spots_in, Inside}
use Rattle.reading.proofs.fields.fields_in.Given as goal

abbrev pub invariant-loop-i : goal.invariant-loop-i
invariant-loop-i l = Inside l.rest × (spots_in l.fn.rest ≡ map spot (take l.i l.fields) ++ spots_in l.rest)
