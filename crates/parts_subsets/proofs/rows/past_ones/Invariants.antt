use Rattle.std.proofs.Common.{◌≡◌, drop}
use Rattle.parts_row_major.specs.Numbering.{count_of}
use Rattle.parts_subsets.proofs.rows.past_ones.Given as goal

abbrev pub invariant-loop-axis : goal.invariant-loop-axis
invariant-loop-axis l = record {
  points_are : l.points ≡ count_of (drop l.axis l.len);
  stride_is : l.stride ≡ count_of (drop l.axis l.shape);
}
