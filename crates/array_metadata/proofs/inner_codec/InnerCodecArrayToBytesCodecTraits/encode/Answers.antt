use Rattle.array_metadata.proofs.inner_codec.InnerCodecArrayToBytesCodecTraits.encode.Goals as goal

pub returns-in-Elements-clause-written : goal.returns-in-Elements-clause-written
returns-in-Elements-clause-written c = rw c.in-Elements.is c.encode.ensures.written

pub returns-in-Shards-clause-written : goal.returns-in-Shards-clause-written
returns-in-Shards-clause-written c = rw c.in-Shards.is c.encode-in-Shards.ensures.written

pub returns-in-Opaque-clause-written : goal.returns-in-Opaque-clause-written
returns-in-Opaque-clause-written c = rw c.in-Opaque.is c.encode-in-Opaque.ensures.written

pub returns-in-Shards-clause-lawful : goal.returns-in-Shards-clause-lawful
returns-in-Shards-clause-lawful c = rw c.in-Shards.is c.encode-in-Shards.ensures.lawful

pub returns-in-Shards-clause-refused : goal.returns-in-Shards-clause-refused
returns-in-Shards-clause-refused c = rw c.in-Shards.is c.encode-in-Shards.ensures.refused
