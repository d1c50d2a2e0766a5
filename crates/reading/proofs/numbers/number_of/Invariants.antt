use Rattle.std.proofs.Common.{◌≡◌, ◌^◌, ◌<◌, drop}
use Rattle.reading.specs.Numbers.{reading}
use Rattle.reading.proofs.numbers.number_of.Given as goal

abbrev pub invariant-loop-b : goal.invariant-loop-b
invariant-loop-b l = (reading l.value (drop l.b-index l.field) ≡ reading 0 l.field) × (l.value < 10 ^ l.b-index)
