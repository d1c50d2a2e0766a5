use Rattle.std.proofs.Common.{◌≡◌, ◌+◌, false, ◌&&◌, ◌||◌, eqb, get_or, drop, set, sym, ap, ◌∙◌}
use Rattle.std.proofs.lemmas.Bool.{and_from, and_left, and_right, eq-eqb, ne_eqb, or_left}
use Rattle.layers.specs.Layers.{above_has, pair_broken}
use Rattle.analysis.specs.Questions.{row_at}
use Rattle.analysis.specs.declared.row.Mark.TheVariants.{Below}
use Rattle.layers.proofs.Looking.{broken_end, broken_step, no_pair}
use Rattle.layers.proofs.pairs.breaks.Goals as goal
use Rattle.layers.proofs.pairs.breaks.Goals.{else-pair-table-via-then-pair-table+else-stands_above, else-pair-table-via-else-pair-table}

pub returns-then-stands_above : goal.returns-then-stands_above
returns-then-stands_above c =
    let t = c.args.table.now in
    let m = set c.args.marks.now c.args.place Below in
    let p = get_or c.args.pairs.now c.loop-pair.pair-index no_pair in
    let n = (row_at t c.args.place).number in
    let h = broken_step c.args.pairs.now n t m c.loop-pair.pair-index c.loop-pair-test.true in
    let both = and_from (eqb p.upper n) (above_has p.lower t m) (eq-eqb p.upper n c.if-pair-table.true) (sym c.if-stands_above.ensures) in
    sym (or_left (eqb p.upper n && above_has p.lower t m) (pair_broken (drop (c.loop-pair.pair-index + 1) c.args.pairs.now) n t m) both)
    ∙ (sym h ∙ c.loop-pair.invariant)

pub loop-pair-preserved : goal.loop-pair-preserved
loop-pair-preserved c =
    let t = c.args.table.now in
    let m = set c.args.marks.now c.args.place Below in
    let p = get_or c.args.pairs.now c.loop-pair.pair-index no_pair in
    let n = (row_at t c.args.place).number in
    let h = broken_step c.args.pairs.now n t m c.loop-pair.pair-index c.loop-pair-test.true in
    let rest = pair_broken (drop (c.loop-pair.pair-index + 1) c.args.pairs.now) n t m in
    let whole : eqb p.upper n && above_has p.lower t m ≡ false =
    elim c.else-pair-table.branch [
      | else-pair-table-via-then-pair-table+else-stands_above w ↦
          and_right (eqb p.upper n) (above_has p.lower t m) (sym w.stands_above.ensures ∙ w.if-stands_above.false)
      | else-pair-table-via-else-pair-table w ↦ and_left (eqb p.upper n) (above_has p.lower t m) (ne_eqb p.upper n w.if-pair-table.false)
    ] in
    ap (λ b. b || rest) (sym whole) ∙ (sym h ∙ c.loop-pair.invariant)

pub returns : goal.returns
returns c =
    let t = c.args.table.now in
    sym (broken_end c.args.pairs.now (row_at t c.args.place).number t (set c.args.marks.now c.args.place Below) c.loop-pair.pair-index
    c.loop-pair-test.false) ∙ c.loop-pair.invariant
