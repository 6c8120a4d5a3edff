use Rattle.sharding_plans.specs.Chunks.{whole_chunks}
use Rattle.sharding_plans.proofs.RoundingLemmas.{AreMetSoFar}
use Rattle.sharding_plans.proofs.chunks.PlannedArray.plan_chunks.Given as goal

abbrev pub invariant-loop-j : goal.invariant-loop-j
invariant-loop-j l = AreMetSoFar (whole_chunks l.self.shape.items l.self.chunks.subchunk_shape) l.self.chunks.subchunk_shape l.subset l.touched l.j l.parts.items
