-- The vector's insertion at the place of the key is the insertion by key, which keeps the order.
use Rattle.std.proofs.Common.{◌≡◌, true, false, ltb, length, vec_items, refl, arith}
use Rattle.ordered.specs.Keys.{inserted_by}
use Rattle.ordered.proofs.Insertion.{ascending_kept, inserted_is, inserted_law}
use Rattle.std.proofs.lemmas.Bool.{le-ltb, lt-ltb}
use Rattle.ordered.proofs.list.Kept.insert.Goals as goal

pub returns-then-self-len : goal.returns-then-self-len
returns-then-self-len g c =
    let full : ltb (length (vec_items c.args.self.now.items)) c.args.self.now.most ≡ false =
    le-ltb (length (vec_items c.args.self.now.items)) c.args.self.now.most (omega (arith, c.len.ensures, c.args.self.now.items.ok.0)) in
    record {
      answer = rw full;
      items = rw full;
      most = refl;
      law = inserted_law g.T.Keyed.key c.args.item (vec_items c.args.self.now.items) c.args.self.now.ordered;
    }

pub invariant_of-self-clause-ordered : goal.invariant_of-self-clause-ordered
invariant_of-self-clause-ordered g c =
    ascending_kept g.T.Keyed.key _ c.args.item (vec_items c.args.self.now.items) (vec_items c.insert.new.self) c.place-at.result c.insert.ensures.items
    (rw (← c.key.ensures) c.place-at.ensures.value) c.args.self.now.ordered

pub returns : goal.returns
returns g c =
    let free : ltb (length (vec_items c.args.self.now.items)) c.args.self.now.most ≡ true =
    lt-ltb (length (vec_items c.args.self.now.items)) c.args.self.now.most (omega (arith, c.len.ensures, c.args.self.now.items.ok.0)) in
    let is = inserted_is g.T.Keyed.key c.args.item (vec_items c.args.self.now.items) in
    let e : vec_items c.insert.new.self ≡ inserted_by g.T.Keyed.key c.args.item (vec_items c.args.self.now.items) =
    let i = c.in-Ok.ensures.items in let a = c.place-at.ensures.value in let d = c.key.ensures in cc in
    record {
      answer = rw free;
      items = rw free e;
      most = refl;
      law = inserted_law g.T.Keyed.key c.args.item (vec_items c.args.self.now.items) c.args.self.now.ordered;
    }
