use Rattle.codec_traits.specs.RefusalLaws.{passed_on}
use Rattle.tool_script.proofs.shard.Shard.compaction_of.Goals as goal

pub returns-in_err-compacted-clause-refused : goal.returns-in_err-compacted-clause-refused
returns-in_err-compacted-clause-refused c = passed_on _ c.in_err-compacted.field-0.0 _ c.from_residual.ensures.1 c.in_err-compacted.ensures.refused
