use Rattle.std.proofs.Common.{◌≡◌, drop, length}
use Rattle.parts_row_major.specs.Numbering.{count_of, number_of}
use Rattle.parts_subsets.proofs.sets.first_number.Given as goal

abbrev pub invariant-loop-axis : goal.invariant-loop-axis
invariant-loop-axis l = record {
  same_axes : length l.start ≡ length l.shape;
  stride_is : l.stride ≡ count_of (drop l.axis l.shape);
  so_far : l.number ≡ number_of (drop l.axis l.start) (drop l.axis l.shape);
}
