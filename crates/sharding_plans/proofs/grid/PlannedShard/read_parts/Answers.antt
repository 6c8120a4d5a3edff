use Rattle.std.proofs.Common.{arith}
use Rattle.sharding_plans.proofs.PlanLemmas.{planned_more}
use Rattle.sharding_plans.proofs.grid.PlannedShard.read_parts.Goals as goal

pub loop-j-preserved : goal.loop-j-preserved
loop-j-preserved c =
    let a = c.args in
    let told = rw c.in-Some.is at c.in_ok-part.ensures.part in
    planned_more a.self.now.shape a.self.now.subchunk_shape a.index.now.len a.index.now.numbers.now a.subset.now a.touched.now
    c.loop-j.j c.loop-j.parts.items c.push.new.self.items c.in-Some.part (omega (arith, c.loop-j-test.true)) c.in_ok-push.ensures.items told.0 told.1 c.loop-j.invariant
