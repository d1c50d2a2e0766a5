use Rattle.std.proofs.Common.{◌≡◌, suc, ◌+◌, List, [], ◌∷◌, ◌++◌, length, length-append, get_or, drop, sym, ap, ◌∙◌, append-nil, arith}
use Rattle.mapping.specs.Plans.{lines_from, placed}
use Rattle.mapping.specs.Rounds.{led, no_candidate}
use Rattle.mapping.specs.declared.round.Candidate.{Candidate}
use Rattle.mapping.proofs.Placements.{led_else, led_then, line, lines_more, placed_more, placed_none}
use Rattle.std.proofs.lemmas.List.{drop_all}
use Rattle.mapping.proofs.round.Lead.place_members.Goals as goal
use Rattle.mapping.proofs.round.Lead.place_members.Goals.{then-goes_with, else-goes_with}

pub loop-c-preserved : goal.loop-c-preserved
loop-c-preserved c =
    let l = c.args.self in
    let cs = c.args.found.now in
    let i = c.loop-c.c-index in
    let x = get_or cs i no_candidate in
    let these = led l (drop i cs) in
    let rest = led l (drop (i + 1) cs) in
    let ls = c.loop-c.lines.items in
    let I = c.loop-c.invariant in
    elim c.if-goes_with.branch [
      | then-goes_with w ↦
          let e : these ≡ x ∷ rest = led_then l cs i c.loop-c-test.true (sym c.goes_with.ensures ∙ w.if-goes_with.true) in
          let more : c.if-goes_with.lines.items ≡ ls ++ line c.args.task (c.loop-c.place + 1) x ∷ [] = rw w.lines-is w.push.ensures.items in (
            omega (arith, w.place-is, I.0),
            omega (arith, ap length more, length-append ls (line c.args.task (c.loop-c.place + 1) x ∷ []), I.1),
            rw (w.place-is, more) (lines_more c.args.task c.loop-c.place ls _ x these rest e I.2),
            (let a = w.marks-is in let b = placed_more x rest c.loop-c.marks in let d = I.3 in cc),
          )
      | else-goes_with w ↦
          let e : these ≡ rest = led_else l cs i c.loop-c-test.true (sym c.goes_with.ensures ∙ w.if-goes_with.false) in
          let same : c.if-goes_with.lines.items ≡ ls = rw w.lines-is in (
            omega (arith, w.place-is, I.0),
            omega (arith, ap length same, I.1),
            rw (w.place-is, same, ← e) I.2,
            (let a = w.marks-is in let b = I.3 in cc),
          )
    ]

pub returns : goal.returns
returns c =
    let none : led c.args.self (drop c.loop-c.c-index c.args.found.now) ≡ led c.args.self [] =
    ap (λ (u : List Candidate). led c.args.self u) (drop_all c.loop-c.c-index c.args.found.now c.loop-c-test.false) in
    let I = c.loop-c.invariant in
    record {
      lines =
          sym (append-nil c.loop-c.lines.items) ∙
          sym (ap (λ (u : List Candidate). c.loop-c.lines.items ++ lines_from c.args.task (suc c.loop-c.place) u) none) ∙ I.2;
      marks = sym (placed_none 0 c.loop-c.marks) ∙ sym (ap (λ (u : List Candidate). placed u c.loop-c.marks) none) ∙ I.3;
    }
