use Rattle.std.proofs.Common.{◌≡◌, ◌<◌, ◌++◌, take, drop, length}
use Rattle.parts_row_major.specs.Numbering.{count_of, point_of}
use Rattle.parts_row_major.proofs.numbering.write_point.Given as goal

abbrev pub invariant-loop-axis : goal.invariant-loop-axis
invariant-loop-axis l = record {
  axes : length l.point ≡ length l.shape;
  some_left : 0 < l.stride;
  count_left : l.stride ≡ count_of (drop l.axis l.shape);
  point_so_far : take l.axis l.point ++ point_of l.rest (drop l.axis l.shape) ≡ point_of l.number l.shape;
}
