-- The elements of no greater key come first, and the search gives the place behind them.
use Rattle.std.proofs.Common.{◌≡◌, true, rules, leb}
use Rattle.ordered.specs.Keys.{ascending}
use Rattle.ordered.proofs.Placing.{parted, place_is}
use Rattle.std.proofs.lemmas.List.Sorted.{IsPartitionPoint-from_clause}
use Rattle.ordered.proofs.list.Kept.place.Goals as goal

pub returns-clause-value : goal.returns-clause-value
returns-clause-value g c =
    let key = g.T.Keyed.key in
    let xs = c.deref.result.now in
    let a : ascending key xs ≡ true = rw c.deref.ensures.value c.args.self.now.ordered in
    rw (← c.deref.ensures.value)
    (place_is key c.args.key xs c.partition_point.result c.partition_point.ensures.bound
    (IsPartitionPoint-from_clause (λ x. leb (key x) c.args.key) xs c.partition_point.result
    c.partition_point.ensures.partitioned (parted key c.args.key xs a) (λ x b f' k. search rules)))
