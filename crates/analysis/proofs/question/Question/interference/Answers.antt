use Rattle.std.proofs.Common.{rules}
use Rattle.analysis.proofs.Parts.{interference_parts}
use Rattle.analysis.proofs.question.Question.interference.Goals as goal

pub returns-clause-value : goal.returns-clause-value
returns-clause-value c =
    let q = c.args.self.now in
    let e = interference_parts q.table.now q.marks.now q.place c.args.window q.fair.marked q.fair.within in
    search rules
