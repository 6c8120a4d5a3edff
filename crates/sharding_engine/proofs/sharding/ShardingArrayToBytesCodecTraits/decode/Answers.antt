use Rattle.std.proofs.Common.{inl, inr}
use Rattle.std.proofs.lemmas.Result.{IfErr-weaker}
use Rattle.sharding_engine.proofs.sharding.ShardingArrayToBytesCodecTraits.decode.Goals as goal

pub returns-clause-lawful : goal.returns-clause-lawful
returns-clause-lawful g c = IfErr-weaker c.decoded.result _ _ (λ e may serves. may) c.decoded.ensures.lawful

pub returns-clause-refused : goal.returns-clause-refused
returns-clause-refused g c =
    IfErr-weaker c.decoded.result _ _ (λ e refused. elim refused [
      | inl memory ↦ inl memory
      | inr refusals ↦ inr (inr (c.in_ok-plan.ensures.serves, refusals))
    ]) c.decoded.ensures.refused
