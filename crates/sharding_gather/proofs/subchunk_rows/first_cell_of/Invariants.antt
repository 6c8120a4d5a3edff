-- The axes so far are in the number.
use Rattle.std.proofs.Common.{◌≡◌, ◌+◌, ◌*◌, ◌<◌, drop}
use Rattle.parts_row_major.specs.Numbering.{count_of, number_of, point_of, zip_with}
use Rattle.sharding_gather.proofs.subchunk_rows.first_cell_of.Given as goal

abbrev pub invariant-loop-axis : goal.invariant-loop-axis
invariant-loop-axis l = record {
  some_left : 0 < l.left;
  count_left : l.left ≡ count_of (drop l.axis l.grid);
  so_far : l.first * count_of (drop l.axis l.shape) + number_of (zip_with ◌*◌ (point_of l.rest (drop l.axis l.grid)) (drop l.axis l.sub)) (drop l.axis l.shape)
      ≡ number_of (zip_with ◌*◌ (point_of l.number l.grid) l.sub) l.shape;
}
