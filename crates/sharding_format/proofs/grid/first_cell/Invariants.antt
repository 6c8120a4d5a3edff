-- The products so far.
use Rattle.std.proofs.Common.{◌≡◌, ◌<◌, ◌*◌, ℕ, length, get_or}
use Rattle.parts_row_major.specs.Numbering.{point_of}
use Rattle.sharding_format.proofs.grid.first_cell.Given as goal

abbrev pub invariant-loop-axis : goal.invariant-loop-axis
invariant-loop-axis l = record {
  counted : length l.start.items ≡ l.axis;
  product : (k : ℕ) → k < l.axis → get_or l.start.items k 0 ≡ get_or (point_of l.number l.grid) k 0 * get_or l.sub k 0;
}
