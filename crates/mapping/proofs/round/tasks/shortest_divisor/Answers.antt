use Rattle.std.proofs.Common.{◌≡◌, List, drop, ap, arith}
use Rattle.std.proofs.lemmas.List.{drop_all}
use Rattle.mapping.specs.Plans.{shortest_divisor}
use Rattle.mapping.specs.declared.round.Candidate.{Candidate}
use Rattle.mapping.proofs.Rounds.{shortest_else, shortest_most, shortest_then}
use Rattle.mapping.proofs.round.tasks.shortest_divisor.Goals as goal
use Rattle.mapping.proofs.round.tasks.shortest_divisor.Goals.{then-period-other-eq0, else-period-other-eq0}

pub loop-candidate-init : goal.loop-candidate-init
loop-candidate-init c = (omega (arith, shortest_most c.args.period c.args.found.now), omega arith)

pub loop-candidate-preserved : goal.loop-candidate-preserved
loop-candidate-preserved c =
    let i = c.loop-candidate.candidate-index in
    elim c.if-period-other-eq0.branch [
      | then-period-other-eq0 w ↦
          let s = shortest_then c.args.period c.args.found.now i c.loop-candidate-test.true w.if-period-other-eq0.true in
          (omega (arith, s, w.shortest-is, w.min-shortest.ensures), omega (arith, w.shortest-is, w.min-shortest.ensures))
      | else-period-other-eq0 w ↦
          let s = shortest_else c.args.period c.args.found.now i c.loop-candidate-test.true w.if-period-other-eq0.false in
          (omega (arith, s, w.shortest-is), omega (arith, w.shortest-is))
    ]

pub returns : goal.returns
returns c =
    let none : shortest_divisor c.args.period (drop c.loop-candidate.candidate-index c.args.found.now) ≡ c.args.period =
    ap (λ (u : List Candidate). shortest_divisor c.args.period u) (drop_all c.loop-candidate.candidate-index c.args.found.now c.loop-candidate-test.false) in
    omega (arith, none)
