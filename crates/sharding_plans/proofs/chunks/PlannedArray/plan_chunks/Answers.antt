use Rattle.std.proofs.Common.{arith}
use Rattle.sharding_plans.specs.Chunks.{whole_chunks}
use Rattle.sharding_plans.proofs.RoundingLemmas.{met_more}
use Rattle.sharding_plans.proofs.chunks.PlannedArray.plan_chunks.Goals as goal

pub loop-j-preserved : goal.loop-j-preserved
loop-j-preserved c =
    let a = c.args in
    let chunk = a.self.now.chunks.subchunk_shape in
    met_more (whole_chunks a.self.now.shape.items chunk) chunk a.subset.now a.touched.now c.loop-j.j c.loop-j.parts.items c.push.new.self.items c.in_ok-part.part
    (omega (arith, c.loop-j-test.true)) c.in_ok-push.ensures.items c.in_ok-part.ensures.number c.in_ok-part.ensures.part c.loop-j.invariant
