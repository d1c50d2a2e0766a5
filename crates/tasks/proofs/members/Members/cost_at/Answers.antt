use Rattle.std.proofs.Common.{length, ap, rules, tests, arith}
use Rattle.std.proofs.lemmas.Iterator.{YieldsList-from_map, YieldsList-from_slice}
use Rattle.std.proofs.lemmas.Iterator.Consumers.{YieldsList-at, YieldsList-from_filter, fits_by_from_yields_list}
use Rattle.tasks.specs.Totals.{divides}
use Rattle.tasks.proofs.Summing.{costs_at_fit}
use Rattle.tasks.proofs.members.Members.cost_at.Goals as goal

pub sum-requires-clause-fits : goal.sum-requires-clause-fits
sum-requires-clause-fits c =
    let ms = c.args.self.now.rows.items in
    fits_by_from_yields_list _ _ c.map.result _
    (YieldsList-from_map _ (λ r. r.cost) (YieldsList-at c.map.ensures.source
    (YieldsList-from_filter _ (divides c.args.time) (YieldsList-from_slice ms cc) c.filter.ensures.closure (λ x r q k. search (rules, tests))))
    c.map.ensures.closure (λ x r q k. search (rules, tests)))
    (costs_at_fit ms (search rules) (omega (arith, c.deref.ensures.1, ap length c.deref.ensures.0)) c.args.time)
