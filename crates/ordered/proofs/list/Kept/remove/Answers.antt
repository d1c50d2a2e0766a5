-- Within the list the vector's removal; past its end nothing is taken out.
use Rattle.std.proofs.Common.{◌≤◌, length, vec_items, vec_len, sym, refl, arith}
use Rattle.ordered.proofs.Insertion.{ascending_removed, removed_past}
use Rattle.std.proofs.lemmas.Option.{slice_get_past, slice_get_read}
use Rattle.ordered.proofs.list.Kept.remove.Goals as goal

pub returns-then-at-len : goal.returns-then-at-len
returns-then-at-len g c =
    let h : length (vec_items c.args.self.now.items) ≤ c.args.at = omega (arith, c.len.ensures, c.args.self.now.items.ok.0) in
    record {
      value = sym (slice_get_past (vec_items c.args.self.now.items) c.args.at h);
      items = sym (removed_past (vec_items c.args.self.now.items) c.args.at h);
      most = refl;
    }

pub returns : goal.returns
returns g c =
    record {
      value =
          sym (slice_get_read (vec_items c.args.self.now.items) (vec_len c.args.self.now.items) c.args.at c.remove.result
          c.args.self.now.items.ok.0 (omega (arith, c.len.ensures)) c.remove.ensures.value);
      items = c.remove.ensures.items;
      most = refl;
    }

pub invariant_of-self-clause-ordered : goal.invariant_of-self-clause-ordered
invariant_of-self-clause-ordered g c =
    rw c.remove.ensures.items (ascending_removed g.T.Keyed.key (vec_items c.args.self.now.items) c.args.at c.args.self.now.ordered)
