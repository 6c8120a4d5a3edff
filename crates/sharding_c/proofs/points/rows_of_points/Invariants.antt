use Rattle.std.proofs.Common.{◌≡◌}
use Rattle.sharding_c.specs.Points.{point_rows}
use Rattle.sharding_c.proofs.points.rows_of_points.Given as goal

abbrev pub invariant-loop-j : goal.invariant-loop-j
invariant-loop-j l = l.rows.items ≡ point_rows l.subchunks l.slots l.j
