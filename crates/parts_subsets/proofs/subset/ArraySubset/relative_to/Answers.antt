use Rattle.std.proofs.Common.{arith, refl}
use Rattle.parts_subsets.proofs.OverlapLaws.{relative_is_subset}
use Rattle.parts_subsets.proofs.subset.ArraySubset.relative_to.Goals as goal

pub invariant_of-result : goal.invariant_of-result
invariant_of-result c =
    let not_below = (rw c.deref.ensures at c.if-not-is_at_or_after.ensures).0 refl in
    rw (c.in_ok-start.ensures, c.in_ok-shape.ensures, c.deref-2.ensures, c.deref-3.ensures)
    (relative_is_subset c.self.inside.start.items c.self.inside.shape.items c.args.origin.now (omega arith) not_below c.self.invariant)
