use Rattle.std.proofs.Common.{◌≡◌, ◌/◌, drop, length}
use Rattle.parts_row_major.specs.Numbering.{count_of, number_of, IsInside}
use Rattle.parts_row_major.specs.Subsets.{point_in}
use Rattle.parts_row_major.proofs.points.number_of_point.Given as goal

abbrev pub invariant-loop-axis : goal.invariant-loop-axis
invariant-loop-axis l =
    let point = point_in (record { start = l.start; shape = l.len }) l.i in
    record {
      same_axes : length l.start ≡ length l.len;
      same_length : length l.len ≡ length l.shape;
      inside : IsInside point l.shape;
      rest_is : l.rest ≡ l.i / count_of (drop l.axis l.len);
      stride_is : l.stride ≡ count_of (drop l.axis l.shape);
      so_far : l.number ≡ number_of (drop l.axis point) (drop l.axis l.shape);
    }
