use Rattle.std.proofs.Common.{◌≡◌, length, drop}
use Rattle.parts_row_major.specs.Numbering.{count_of, number_of, IsInside}
use Rattle.parts_row_major.proofs.numbering.ravel_indices.Given as goal

abbrev pub invariant-loop-axis : goal.invariant-loop-axis
invariant-loop-axis l = record {
  same_length : length l.indices ≡ length l.shape;
  inside : IsInside (drop l.axis l.indices) (drop l.axis l.shape);
  so_far : l.number ≡ number_of (drop l.axis l.indices) (drop l.axis l.shape);
  count_so_far : l.stride ≡ count_of (drop l.axis l.shape);
}
