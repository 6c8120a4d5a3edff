use Rattle.std.proofs.Common.{◌≡◌, ◌*◌}
use Rattle.parts_row_major.specs.Numbering.{number_of, point_of, zip_with}
use Rattle.parts_subsets.specs.Grid.{grid_of}
use Rattle.parts_subsets.proofs.GridLaws.{length-grid}
use Rattle.sharding_gather.proofs.SubchunkRowLemmas.{start_small, moved_from_first, moved_inside, updated_at}
use Rattle.sharding_gather.proofs.subchunk_rows.SubchunkRows.scatter.Goals as goal
use Rattle.sharding_gather.proofs.subchunk_rows.SubchunkRows.scatter.Goals.{After-first_cell_of-first}

pub first_cell_of-first-requires-clause-grid_axes : goal.first_cell_of-first-requires-clause-grid_axes
first_cell_of-first-requires-clause-grid_axes c =
    let s = c.self.inside in
    rw c.self.invariant.grid_is (length-grid s.shape.now s.sub.now c.self.invariant.divides)

pub first_cell_of-first-requires-clause-fits : goal.first_cell_of-first-requires-clause-fits
first_cell_of-first-requires-clause-fits c =
    let s = c.self.inside in
    let known = c.self.invariant in
    rw known.grid_is (start_small s.shape.now s.sub.now c.args.number known.divides known.fits (rw (← c.self.view_is) at c.requires.below) known.some)

-- where the subchunk begins
first_is : (c : After-first_cell_of-first) → c.first_cell_of-first.result ≡ number_of (zip_with ◌*◌ (point_of c.args.number (grid_of c.self.inside.shape.now c.self.inside.sub.now)) c.self.inside.sub.now) c.self.inside.shape.now
first_is c = rw c.self.invariant.grid_is at c.first_cell_of-first.ensures

pub scatter-requires-clause-inside : goal.scatter-requires-clause-inside
scatter-requires-clause-inside c =
    let s = c.self.inside in
    let known = c.self.invariant in
    let first = first_is (goal.at.scatter-requires-clause-inside c).After-first_cell_of-first in
    let below = rw (← c.self.view_is) at c.requires.below in
    let whole = rw (← c.self.view_is) at c.requires.whole in
    rw known.first_is (λ k lt. moved_inside s.shape.now s.sub.now c.args.number _ k c.args.size known.divides first below lt whole)

pub scatter-requires-clause-whole : goal.scatter-requires-clause-whole
scatter-requires-clause-whole c = rw (c.self.invariant.first_is) (rw (← c.self.view_is) at c.requires.part)

pub returns : goal.returns
returns c =
    let s = c.self.inside in
    let known = c.self.invariant in
    let first = first_is (goal.at.returns c).After-first_cell_of-first in
    let put = rw known.first_is at c.scatter.ensures in
    rw (← c.self.view_is) (updated_at (λ k. moved_from_first s.shape.now s.sub.now c.args.number _ k known.divides first) put)
