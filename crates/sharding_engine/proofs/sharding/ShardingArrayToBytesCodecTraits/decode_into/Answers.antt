use Rattle.std.proofs.Common.{inl, inr}
use Rattle.std.proofs.lemmas.Result.{IfErr-weaker}
use Rattle.sharding_engine.proofs.sharding.ShardingArrayToBytesCodecTraits.decode_into.Goals as goal

pub returns-clause-lawful : goal.returns-clause-lawful
returns-clause-lawful g c = IfErr-weaker c.decoded_into.result _ _ (λ e may serves kind counted. may) c.decoded_into.ensures.lawful

pub returns-clause-refused : goal.returns-clause-refused
returns-clause-refused g c =
    let fits = c.in_ok-check_target.ensures in
    let counted = fits.counted _ c.num_elements.ensures.value in
    IfErr-weaker c.decoded_into.result _ _ (λ e refused. elim refused [
      | inl memory ↦ inl memory
      | inr refusals ↦ inr (inr (c.in_ok-plan.ensures.serves, inr (fits.kind, inr (counted, refusals))))
    ]) c.decoded_into.ensures.refused
