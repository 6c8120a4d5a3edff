use Rattle.array_grid.proofs.grid.ShardGrid.coordinates.Goals as goal

pub returns : goal.returns
returns c = rw (← c.self.view_is, ← c.self.invariant.rounded, ← c.self.invariant.cut, ← c.as_slice.ensures.value) c.unravel_index.ensures
