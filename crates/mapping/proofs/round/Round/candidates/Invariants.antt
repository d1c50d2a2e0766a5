use Rattle.std.proofs.Common.{◌≡◌, ◌≤◌, ◌++◌, length, drop}
use Rattle.mapping.specs.Plans.{candidates, candidates_from}
use Rattle.mapping.proofs.round.Round.candidates.Given as goal

-- what was found and what is still to be found make up the candidates
abbrev pub invariant-loop-at : goal.invariant-loop-at
invariant-loop-at g l =
    let v = g.A.Analysis.verdict l.self.analysis.now in
    let t = l.self.rows.now in
    let m = l.self.marks.now in
    (length l.found.items ≤ l.at) × (l.found.items ++ candidates_from (v t m) l.at (drop l.at t) (drop l.at m) ≡ candidates v t m)
