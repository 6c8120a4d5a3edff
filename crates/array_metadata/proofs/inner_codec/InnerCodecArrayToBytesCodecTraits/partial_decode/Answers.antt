use Rattle.array_metadata.proofs.inner_codec.InnerCodecArrayToBytesCodecTraits.partial_decode.Goals as goal

pub returns-in-Shards-clause-refused : goal.returns-in-Shards-clause-refused
returns-in-Shards-clause-refused g c = rw c.in-Shards.is c.partial_decode-in-Shards.ensures.refused

pub returns-in-Elements-clause-refused : goal.returns-in-Elements-clause-refused
returns-in-Elements-clause-refused g c = rw c.in-Elements.is c.partial_decode.ensures.refused
