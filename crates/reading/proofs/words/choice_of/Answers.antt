use Rattle.std.proofs.Common.{codes, rules}
use Rattle.reading.specs.Says.{choice_of}
use Rattle.reading.proofs.Spelled.{spelled}
use Rattle.reading.proofs.words.choice_of.Goals as goal

pub returns-in-linear : goal.returns-in-linear
returns-in-linear c = spelled c.args.bytes.now (codes "linear") choice_of (search rules) (search rules)

pub returns-in-sections : goal.returns-in-sections
returns-in-sections c = spelled c.args.bytes.now (codes "sections") choice_of (search rules) (search rules)
