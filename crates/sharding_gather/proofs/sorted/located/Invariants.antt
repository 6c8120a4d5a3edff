-- The axes from the last one on have been looked at.
use Rattle.std.proofs.Common.{◌≡◌, ◌/◌, drop}
use Rattle.parts_row_major.specs.Numbering.{count_of, number_of, point_of}
use Rattle.parts_subsets.specs.Grid.{grid_of, subchunk_of, position_of}
use Rattle.sharding_gather.proofs.sorted.located.Given as goal

abbrev pub invariant-loop-axis : goal.invariant-loop-axis
invariant-loop-axis l =
    let point = point_of l.number l.shape in
    let grid = grid_of l.shape l.sub in
    record {
      rest_is : l.rest ≡ l.number / count_of (drop l.axis l.shape);
      subchunks_is : l.subchunks ≡ count_of (drop l.axis grid);
      subchunk_is : l.subchunk ≡ number_of (drop l.axis (subchunk_of point l.sub)) (drop l.axis grid);
      positions_is : l.positions ≡ count_of (drop l.axis l.sub);
      position_is : l.position ≡ number_of (drop l.axis (position_of point l.sub)) (drop l.axis l.sub);
    }
