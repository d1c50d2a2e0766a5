use Rattle.std.proofs.Common.{◌≡◌, ◌+◌, List, [], ◌∷◌, ◌++◌, length, length-append, get_or, drop, sym, ap, ◌∙◌, append-nil, arith}
use Rattle.analysis.specs.Questions.{row_at}
use Rattle.analysis.specs.declared.row.Mark.TheVariants.{Above}
use Rattle.analysis.specs.declared.row.Row.{Row}
use Rattle.mapping.specs.Plans.{candidates, candidates_from, if_on_time, if_unplaced}
use Rattle.mapping.specs.declared.round.Candidate.{Candidate}
use Rattle.mapping.proofs.Rounds.{candidates_more, found_more, found_none}
use Rattle.std.proofs.lemmas.List.{drop_all}
use Rattle.mapping.proofs.round.Round.candidates.Goals as goal
use Rattle.mapping.proofs.round.Round.candidates.Goals.{in-Some, in_default}

pub loop-at-preserved : goal.loop-at-preserved
loop-at-preserved g c =
    let t = c.args.self.now.rows.now in
    let m = c.args.self.now.marks.now in
    let k = c.loop-at.at in
    let v = g.A.Analysis.verdict c.args.self.now.analysis.now in
    let these = candidates_from (v t m) k (drop k t) (drop k m) in
    let here = if_unplaced (get_or m k Above) (if_on_time k (row_at t k) (v t m k)) in
    let rest = candidates_from (v t m) (k + 1) (drop (k + 1) t) (drop (k + 1) m) in
    let all = candidates v t m in
    let xs = c.loop-at.found.items in
    let more : these ≡ here ++ rest = candidates_more (v t m) t m k c.loop-at-test.true c.args.self.now.asked.marked in
    elim c.match-candidate.branch [
      | in-Some w ↦
          let e : c.match-candidate.found.items ≡ xs ++ w.in-Some.candidate ∷ [] = rw w.found-is w.push.ensures.items in (
            omega (arith, ap length e, length-append xs (w.in-Some.candidate ∷ []), c.loop-at.invariant.0),
            ap (λ (u : List Candidate). u ++ rest) e ∙ found_more xs w.in-Some.candidate these here rest all w.in-Some.ensures more c.loop-at.invariant.1,
          )
      | in_default w ↦
          let e : c.match-candidate.found.items ≡ xs = rw w.found-is in (
            omega (arith, ap length e, c.loop-at.invariant.0),
            ap (λ (u : List Candidate). u ++ rest) e ∙ found_none xs these here rest all w.in_default.ensures more c.loop-at.invariant.1,
          )
    ]

pub returns : goal.returns
returns g c =
    let q = c.args.self.now in
    let ask = g.A.Analysis.verdict q.analysis.now q.rows.now q.marks.now in
    let k = c.loop-at.at in
    let e = ap (λ (u : List Row). c.loop-at.found.items ++ candidates_from ask k u (drop k q.marks.now)) (drop_all k q.rows.now c.loop-at-test.false) in
    sym (append-nil c.loop-at.found.items) ∙ sym e ∙ c.loop-at.invariant.1
