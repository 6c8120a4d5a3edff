use Rattle.array_grid.proofs.PartLemmas.{met_in_grid}
use Rattle.array_grid.proofs.grid.ShardGrid.count_touched.Goals as goal

pub points_in-requires : goal.points_in-requires
points_in-requires c =
    let s = c.self.inside in
    rw c.as_slice.ensures.value
    (met_in_grid s.shape.items s.shard s.whole s.grid s.len c.self.invariant c.args.subset.now c.args.touched.now c.requires.well_formed
    (rw (← c.self.view_is) at c.requires.inside) (rw (← c.self.view_is) at c.requires.touched))
