use Rattle.std.proofs.Common.{◌≡◌}
use Rattle.sharding_c.specs.Points.{places_of}
use Rattle.sharding_c.proofs.points.places_of_elements.Given as goal

abbrev pub invariant-loop-i : goal.invariant-loop-i
invariant-loop-i l = l.places.items ≡ places_of l.elements l.i
