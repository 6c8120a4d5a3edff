use Rattle.array_metadata.proofs.inner_codec.InnerCodecArrayToBytesCodecTraits.partial_decode_into.Goals as goal

pub returns-in-Shards-clause-refused : goal.returns-in-Shards-clause-refused
returns-in-Shards-clause-refused g c = rw c.in-Shards.is c.partial_decode_into-in-Shards.ensures.refused
