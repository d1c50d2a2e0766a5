use Rattle.std.proofs.Common.{codes, rules}
use Rattle.reading.specs.Says.{word_of}
use Rattle.reading.proofs.Spelled.{spelled}
use Rattle.reading.proofs.words.word_of.Goals as goal

pub returns-in-strike : goal.returns-in-strike
returns-in-strike c = spelled c.args.bytes.now (codes "strike") word_of (search rules) (search rules)

pub returns-in-charge : goal.returns-in-charge
returns-in-charge c = spelled c.args.bytes.now (codes "charge") word_of (search rules) (search rules)

pub returns-in-margin : goal.returns-in-margin
returns-in-margin c = spelled c.args.bytes.now (codes "margin") word_of (search rules) (search rules)
