-- One pair more in its place keeps what the list holds; the outcome is the first refusal that applies.
use Rattle.std.proofs.Common.{◌≡◌, false, ltb, List, length, sym, ap, ◌∙◌, arith}
use Rattle.layers.specs.Held.{has_pair, pair_in_range, same_pair}
use Rattle.layers.specs.Lists.{pairs_of}
use Rattle.layers.specs.declared.pair.Pair.{Pair}
use Rattle.layers.proofs.Listing.{fine_pair, same_turns}
use Rattle.ordered.proofs.Testing.{apart_kept, every_kept}
use Rattle.layers.proofs.pair_list.PairList.add.Goals as goal

pub invariant_of-self : goal.invariant_of-self
invariant_of-self c =
    let p : Pair = record { upper = c.args.upper; lower = c.args.lower } in
    let ps = pairs_of c.args.self.now in
    let free = ltb (length ps) c.args.self.now.pairs.most in
    let new : has_pair p ps ≡ false = ap (λ (l : List Pair). has_pair p l) (sym c.as_slice.ensures) ∙ sym c.if-contains.ensures.value in
    record {
      roomy = c.insert.ensures.most ∙ c.args.self.now.roomy;
      ranges =
          every_kept pair_in_range (λ q. q.upper) free p ps _ c.insert.ensures.items
          (fine_pair c.args.upper c.args.lower (omega arith) (omega arith) (omega arith) (omega arith) c.if-upper-lower.false) c.args.self.now.ranges;
      apart = apart_kept same_pair same_turns (λ q. q.upper) free p ps _ c.insert.ensures.items new c.args.self.now.apart;
    }
