use Rattle.codec_traits.specs.RefusalLaws.{passed_on}
use Rattle.sharding_engine.proofs.sharding.ShardingArrayToBytesCodecTraits.encode.Goals as goal

pub returns-in_err-encode_onto-clause-lawful : goal.returns-in_err-encode_onto-clause-lawful
returns-in_err-encode_onto-clause-lawful g c =
    passed_on _ c.in_err-encode_onto.field-0.0 _ c.from_residual.ensures.1 c.in_err-encode_onto.ensures.lawful
