use Rattle.sharding_plans.proofs.RoundingLemmas.{lies_in_whole}
use Rattle.array_grid.proofs.grid.ShardGrid.touched.Goals as goal

pub touched_subset-requires-clause-inside : goal.touched_subset-requires-clause-inside
touched_subset-requires-clause-inside c =
    let s = c.self.inside in
    let i = c.self.invariant in
    rw (c.as_slice.ensures.value, c.start.ensures.value, c.shape.ensures.value)
    (lies_in_whole c.args.subset.now s.shape.items s.shard s.whole i.rounded i.same_axes i.some (rw (← c.self.view_is) at c.requires))
