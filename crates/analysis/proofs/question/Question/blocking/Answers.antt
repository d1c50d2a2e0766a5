use Rattle.std.proofs.Common.{rules}
use Rattle.analysis.proofs.Parts.{blocking_parts}
use Rattle.analysis.proofs.question.Question.blocking.Goals as goal

pub returns : goal.returns
returns c =
    let q = c.args.self.now in
    let e = blocking_parts q.table.now q.marks.now q.place q.fair.marked q.fair.within in
    search rules
