use Rattle.std.proofs.Common.{◌≡◌, drop}
use Rattle.parts_row_major.specs.Numbering.{count_of, number_of}
use Rattle.parts_subsets.specs.Grid.{grid_of}
use Rattle.parts_subsets.proofs.subset.touched.number_in_grid.Given as goal

abbrev pub invariant-loop-axis : goal.invariant-loop-axis
invariant-loop-axis l = record {
  stride_is : l.stride ≡ count_of (drop l.axis l.grid);
  so_far : l.number ≡ number_of (drop l.axis (grid_of l.point l.sub)) (drop l.axis l.grid);
}
