use Rattle.std.proofs.Common.{inr}
use Rattle.std.proofs.lemmas.Result.{IfErr-weaker}
use Rattle.sharding_engine.proofs.sharding.ShardingArrayToBytesCodecTraits.encoded_representation.Goals as goal

pub returns-clause-told : goal.returns-clause-told
returns-clause-told g c =
    let plan = c.in_ok-plan.ensures.plan in
    rw c.in_ok-told.ensures.told (rw (plan.subchunks, plan.index.size, plan.grid) at c.shard_bound.ensures.bound)

pub returns-clause-refused : goal.returns-clause-refused
returns-clause-refused g c =
    let plan = c.in_ok-plan.ensures.plan in
    let refused = rw (plan.subchunks, plan.index.size, plan.grid) at c.shard_bound.ensures.refused in
    rw c.in_ok-told.ensures.told (IfErr-weaker c.shard_bound.result _ _ (λ e large. inr (inr (c.in_ok-plan.ensures.serves, large))) refused)
