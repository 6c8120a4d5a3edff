use Rattle.sharding_plans.proofs.PlanLemmas.{IsPlannedSoFar}
use Rattle.sharding_plans.proofs.grid.PlannedShard.read_parts.Given as goal

abbrev pub invariant-loop-j : goal.invariant-loop-j
invariant-loop-j l = IsPlannedSoFar l.self.shape l.self.subchunk_shape l.index.len l.index.numbers.now l.subset l.touched l.j l.parts.items
