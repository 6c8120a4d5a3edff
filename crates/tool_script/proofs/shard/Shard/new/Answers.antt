use Rattle.codec_traits.specs.RefusalLaws.{passed_on}
use Rattle.tool_script.proofs.shard.Shard.new.Goals as goal

pub returns-in_err-chunks_per_shard-clause-refused : goal.returns-in_err-chunks_per_shard-clause-refused
returns-in_err-chunks_per_shard-clause-refused c =
    passed_on _ c.in_err-chunks_per_shard.field-0.0 _ c.from_residual.ensures.1
    (rw (c.built_codec-codec.ensures, c.data_type-data_type.ensures.value) at c.in_err-chunks_per_shard.ensures.refused)
