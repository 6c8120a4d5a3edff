use Rattle.array_grid.proofs.PickLemmas.{picked_lie_in}
use Rattle.array_grid.proofs.picking.subset_picked.Goals as goal

pub returns-in-Some-2-clause-inside : goal.returns-in-Some-2-clause-inside
returns-in-Some-2-clause-inside c =
    let ranges = rw c.in-Some.is at c.in_ok-ranges.ensures in
    let made = rw c.in-Some-2.is at c.in_ok-subset.ensures in
    rw (made.1, c.deref.ensures.value, ranges.1) (picked_lie_in c.args.words.now c.args.shape.now c.requires ranges.0 (rw (c.deref.ensures.value, ranges.1) at made.0))
