use Rattle.codec_traits.specs.RefusalLaws.{passed_on}
use Rattle.tool_script.proofs.shard.Shard.encode.Goals as goal

pub returns-in_err-object-clause-refused : goal.returns-in_err-object-clause-refused
returns-in_err-object-clause-refused c =
    passed_on _ c.in_err-object.field-0.0 _ c.from_residual.ensures.1 (rw c.data_type.ensures.value at c.in_err-object.ensures.refused)
