use Rattle.std.proofs.Common.{◌≡◌, drop, length}
use Rattle.parts_row_major.specs.Numbering.{count_of}
use Rattle.parts_subsets.proofs.sets.set_group.Given as goal

abbrev pub invariant-loop-axis : goal.invariant-loop-axis
invariant-loop-axis l = record {
  same_axes : length l.len ≡ length l.shape;
  covered_is : l.covered ≡ count_of (drop l.axis l.len);
  stride_is : l.stride ≡ count_of (drop l.axis l.shape);
}
