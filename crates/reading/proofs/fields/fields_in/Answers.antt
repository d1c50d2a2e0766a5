use Rattle.std.proofs.Common.{length, take, map, refl, ap, arith, length-append, length-take}
use lib.ListN.{length-map}
use Rattle.reading.specs.Reading.{spot, spots_in}
use Rattle.reading.proofs.Cuts.{spots_any}
use Rattle.reading.proofs.fields.fields_in.Goals as goal

pub returns-in-Some : goal.returns-in-Some
returns-in-Some c =
    let all = ap length c.loop-i.invariant.1 in
    let rest = ap (λ o. length (spots_in o)) c.in-Some.is in
    let read = take c.loop-i.i c.loop-i.fields in
    (refl, λ h. omega (arith, all, rest, spots_any c.in-Some.field-0, length-append (map spot read) (spots_in c.loop-i.rest), length-map read spot, length-take c.loop-i.i c.loop-i.fields))
