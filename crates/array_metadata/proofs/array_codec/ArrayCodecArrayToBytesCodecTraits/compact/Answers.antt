use Rattle.array_metadata.proofs.array_codec.ArrayCodecArrayToBytesCodecTraits.compact.Goals as goal

pub returns-in-Sharded-clause-compacted : goal.returns-in-Sharded-clause-compacted
returns-in-Sharded-clause-compacted c = rw c.in-Sharded.is c.compact.ensures.compacted
