use Rattle.array_metadata.proofs.inner_codec.InnerCodecArrayToBytesCodecTraits.encode_onto.Goals as goal

pub returns-in-Shards-clause-lawful : goal.returns-in-Shards-clause-lawful
returns-in-Shards-clause-lawful c = rw c.in-Shards.is c.encode_onto-in-Shards.ensures.lawful

pub returns-in-Shards-clause-refused : goal.returns-in-Shards-clause-refused
returns-in-Shards-clause-refused c = rw c.in-Shards.is c.encode_onto-in-Shards.ensures.refused
