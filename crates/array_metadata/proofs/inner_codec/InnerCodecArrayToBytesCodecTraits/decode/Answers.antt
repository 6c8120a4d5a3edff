use Rattle.array_metadata.proofs.inner_codec.InnerCodecArrayToBytesCodecTraits.decode.Goals as goal

pub returns-in-Shards-clause-refused : goal.returns-in-Shards-clause-refused
returns-in-Shards-clause-refused c = rw c.in-Shards.is c.decode-in-Shards.ensures.refused
