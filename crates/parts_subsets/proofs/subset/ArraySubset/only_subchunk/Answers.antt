use Rattle.std.proofs.Common.{refl, arith}
use Rattle.parts_row_major.specs.Numbering.{count_of}
use Rattle.parts_subsets.specs.Grid.{grid_of}
use Rattle.parts_subsets.proofs.GridLaws.{at_least, count-grid, count-positive}
use Rattle.parts_subsets.proofs.OneTouched.{only_axes, only_touched, only_below, only_inside}
use Rattle.parts_subsets.proofs.subset.ArraySubset.only_subchunk.Goals as goal

pub is_in_one-requires-clause-axes : goal.is_in_one-requires-clause-axes
is_in_one-requires-clause-axes c =
    let a = c.args in
    rw (c.start-start.ensures.value, c.as_slice-parts.ensures.value) (only_axes a.shape.now a.sub.now a.self.now c.requires.divides c.start-start.ensures.well_formed c.requires.inside)

pub number_in_grid-requires-clause-axes : goal.number_in_grid-requires-clause-axes
number_in_grid-requires-clause-axes c =
    let a = c.args in
    rw (c.start-start.ensures.value, c.as_slice-parts.ensures.value) (only_axes a.shape.now a.sub.now a.self.now c.requires.divides c.start-start.ensures.well_formed c.requires.inside)

pub number_in_grid-requires-clause-inside : goal.number_in_grid-requires-clause-inside
number_in_grid-requires-clause-inside c =
    let a = c.args in
    let one = rw (c.start-start.ensures.value, c.shape-len.ensures.value, c.as_slice-parts.ensures.value) at (c.if-not-is_in_one.ensures refl) in
    rw (c.start-start.ensures.value, c.as_slice-parts.ensures.value, c.as_slice.ensures.value, c.requires.grid)
    (only_inside a.shape.now a.sub.now a.self.now c.as_slice-parts.ensures.positive c.requires.divides c.start-start.ensures.well_formed c.requires.inside one)

pub number_in_grid-requires-clause-fits : goal.number_in_grid-requires-clause-fits
number_in_grid-requires-clause-fits c =
    let a = c.args in
    let some = at_least (count_of (grid_of a.shape.now a.sub.now)) (count_of a.sub.now) (count-positive a.sub.now c.as_slice-parts.ensures.positive) in
    rw (c.as_slice.ensures.value, c.requires.grid) (omega (arith, some, count-grid a.shape.now a.sub.now c.requires.divides, c.requires.fits))

pub returns-clause-touched : goal.returns-clause-touched
returns-clause-touched c =
    let a = c.args in
    let one = rw (c.start-start.ensures.value, c.shape-len.ensures.value, c.as_slice-parts.ensures.value) at (c.if-not-is_in_one.ensures refl) in
    let is = rw (c.start-start.ensures.value, c.as_slice-parts.ensures.value, c.as_slice.ensures.value, c.requires.grid) at c.number_in_grid.ensures in
    rw is (only_touched a.shape.now a.sub.now a.self.now c.as_slice-parts.ensures.positive c.requires.divides c.start-start.ensures.well_formed c.requires.inside one)

pub returns-clause-below : goal.returns-clause-below
returns-clause-below c =
    let a = c.args in
    let one = rw (c.start-start.ensures.value, c.shape-len.ensures.value, c.as_slice-parts.ensures.value) at (c.if-not-is_in_one.ensures refl) in
    let is = rw (c.start-start.ensures.value, c.as_slice-parts.ensures.value, c.as_slice.ensures.value, c.requires.grid) at c.number_in_grid.ensures in
    rw is (only_below a.shape.now a.sub.now a.self.now c.as_slice-parts.ensures.positive c.requires.divides c.start-start.ensures.well_formed c.requires.inside one)
