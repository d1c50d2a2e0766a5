use Rattle.std.proofs.Common.{codes, rules}
use Rattle.reading.specs.Says.{rule_of}
use Rattle.reading.proofs.Spelled.{spelled}
use Rattle.reading.proofs.words.rule_of.Goals as goal

pub returns-in-divided : goal.returns-in-divided
returns-in-divided c = spelled c.args.bytes.now (codes "divided") rule_of (search rules) (search rules)
