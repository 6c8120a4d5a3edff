use Rattle.array_metadata.proofs.inner_codec.InnerCodecArrayToBytesCodecTraits.compact.Goals as goal

pub returns-in-Shards-clause-compacted : goal.returns-in-Shards-clause-compacted
returns-in-Shards-clause-compacted c = rw c.in-Shards.is c.compact-in-Shards.ensures.compacted
