use Rattle.std.proofs.Common.{◌≡◌, ◌*◌, ◌^◌, ◌<◌, drop}
use Rattle.parts_row_major.specs.Numbering.{count_of}
use Rattle.parts_subsets.specs.Grid.{grid_of}
use Rattle.sharding_format.proofs.grid.count_quotients.Given as goal

abbrev pub invariant-loop-axis : goal.invariant-loop-axis
invariant-loop-axis l = record {
  fits : l.product < 2 ^ 64;
  so_far : l.product * count_of (drop l.axis (grid_of l.shape l.sub)) ≡ count_of (grid_of l.shape l.sub);
}
