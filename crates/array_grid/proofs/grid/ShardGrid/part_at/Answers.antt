use Rattle.std.proofs.Common.{◌∙◌, sym}
use Rattle.parts_row_major.specs.Subsets.{numbers_in}
use Rattle.array_grid.proofs.PartLemmas.{inside_whole, met_in_grid, met_touched, met_has, met, met_counted, met_at}
use Rattle.array_grid.proofs.grid.ShardGrid.part_at.Goals as goal

pub number_at-shard-requires-clause-inside : goal.number_at-shard-requires-clause-inside
number_at-shard-requires-clause-inside c =
    let s = c.self.inside in
    rw c.as_slice.ensures.value
    (met_in_grid s.shape.items s.shard s.whole s.grid s.len c.self.invariant c.args.subset.now c.args.touched.now c.requires.well_formed
    (rw (← c.self.view_is) at c.requires.inside) (rw (← c.self.view_is) at c.requires.touched)).0

pub number_at-shard-requires-clause-fits : goal.number_at-shard-requires-clause-fits
number_at-shard-requires-clause-fits c =
    let s = c.self.inside in
    rw c.as_slice.ensures.value
    (met_in_grid s.shape.items s.shard s.whole s.grid s.len c.self.invariant c.args.subset.now c.args.touched.now c.requires.well_formed
    (rw (← c.self.view_is) at c.requires.inside) (rw (← c.self.view_is) at c.requires.touched)).1

pub subchunk_overlap-requires-clause-inside : goal.subchunk_overlap-requires-clause-inside
subchunk_overlap-requires-clause-inside c =
    let s = c.self.inside in
    inside_whole s.shape.items s.shard s.whole s.grid s.len c.self.invariant c.args.subset.now c.args.touched.now c.requires.well_formed
    (rw (← c.self.view_is) at c.requires.inside) (rw (← c.self.view_is) at c.requires.touched)

pub subchunk_overlap-requires-clause-touches : goal.subchunk_overlap-requires-clause-touches
subchunk_overlap-requires-clause-touches c =
    let s = c.self.inside in
    met_touched s.shape.items s.shard s.whole s.grid s.len c.self.invariant c.args.subset.now c.args.touched.now c.requires.well_formed
    (rw (← c.self.view_is) at c.requires.inside) (rw (← c.self.view_is) at c.requires.touched)
    c.args.position _ c.requires.position (rw c.as_slice.ensures.value at c.number_at-shard.ensures.value)

pub unreachable-requires : goal.unreachable-requires
unreachable-requires c =
    let s = c.self.inside in
    let i = c.self.invariant in
    let a = c.args in
    let lies = rw (← c.self.view_is) at c.requires.inside in
    let touched = rw (← c.self.view_is) at c.requires.touched in
    let value = rw c.as_slice.ensures.value at c.number_at-shard.ensures.value in
    (rw c.in_default.is at c.in_ok-coordinates.ensures)
    (rw (← c.self.view_is, ← i.rounded)
    (met_has s.shape.items s.shard s.whole s.grid s.len c.self.invariant a.subset.now a.touched.now c.requires.well_formed lies touched a.position _ c.requires.position value))

pub returns-clause-part : goal.returns-clause-part
returns-clause-part c =
    let s = c.self.inside in
    let i = c.self.invariant in
    let a = c.args in
    let lies = rw (← c.self.view_is) at c.requires.inside in
    let touched = rw (← c.self.view_is) at c.requires.touched in
    let value = rw c.as_slice.ensures.value at c.number_at-shard.ensures.value in
    record {
      shards = numbers_in a.touched.now s.grid;
      touched = rw (← c.self.view_is, ← i.rounded) (met s.shape.items s.shard s.whole s.grid s.len i a.subset.now a.touched.now c.requires.well_formed lies touched);
      counted = met_counted s.shape.items s.shard s.whole s.grid s.len i a.subset.now a.touched.now c.requires.well_formed lies touched;
      here = met_at s.shape.items s.shard s.whole s.grid s.len i a.subset.now a.touched.now c.requires.well_formed lies touched a.position c.requires.position ∙ sym value;
      coordinates = rw c.in-Some.is at c.in_ok-coordinates.ensures;
      meets = rw (← c.self.view_is, ← i.rounded) c.in_ok-overlap.ensures.meets;
    }
