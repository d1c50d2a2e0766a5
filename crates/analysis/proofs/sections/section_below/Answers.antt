use Rattle.std.proofs.Common.{◌≡◌, length, min, rules}
use Rattle.std.proofs.lemmas.Slice.Zip.{zip_end}
use Rattle.analysis.proofs.Parts.{sections_end}
use Rattle.analysis.proofs.sections.section_below.Goals as goal

pub returns : goal.returns
returns c =
    let t = c.args.rows.now in
    let m = c.args.marks.now in
    let n : length c.loop-row.yielded ≡ min (length t) (length m) =
    zip_end t m c.loop-row.yielded c.into_iter-row-iterator.result c.loop-row.row-iterator c.next.new.self c.next.result (search rules) (search rules)
    c.loop-row.yielded_by c.in-None.is c.next.ensures.steps in
    let e = sections_end t m (length c.loop-row.yielded) n in
    search rules
