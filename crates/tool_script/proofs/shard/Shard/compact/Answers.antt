use Rattle.codec_traits.specs.RefusalLaws.{passed_on}
use Rattle.tool_script.proofs.OptionLaws.{there}
use Rattle.tool_script.proofs.shard.Shard.compact.Goals as goal

pub returns-in_err-bytes-clause-refused : goal.returns-in_err-bytes-clause-refused
returns-in_err-bytes-clause-refused c =
    passed_on _ c.in_err-bytes.field-0.0 _ c.from_residual.ensures.1
    (there _ _ _ c.in-Some.is (rw c.deref.ensures.value at c.in_err-bytes.ensures.refused))
