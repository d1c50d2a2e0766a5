use Rattle.std.proofs.Common.{rules, tests}
use Rattle.std.proofs.lemmas.Iterator.{YieldsList-from_map, YieldsList-from_slice}
use Rattle.tasks.proofs.Summing.{greatest}
use Rattle.tasks.proofs.members.Members.longest_period.Goals as goal

pub returns : goal.returns
returns c =
    greatest (λ r. r.period) c.args.self.now.rows.items _ _ _ c.max.ensures.ran
    (YieldsList-from_map _ (λ r. r.period) (YieldsList-from_slice c.args.self.now.rows.items cc) c.map.ensures.closure (λ x r q k. search (rules, tests)))
    c.unwrap_or.ensures
