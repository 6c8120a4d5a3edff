use Rattle.array_metadata.proofs.inner_codec.InnerCodecArrayToBytesCodecTraits.partial_decode_into_fresh.Goals as goal

pub returns-in-Elements-clause-lawful : goal.returns-in-Elements-clause-lawful
returns-in-Elements-clause-lawful g c = rw c.in-Elements.is c.partial_decode_into_fresh.ensures.lawful

pub returns-in-Elements-clause-refused : goal.returns-in-Elements-clause-refused
returns-in-Elements-clause-refused g c = rw c.in-Elements.is c.partial_decode_into_fresh.ensures.refused

pub returns-in-Shards-clause-lawful : goal.returns-in-Shards-clause-lawful
returns-in-Shards-clause-lawful g c = rw c.in-Shards.is c.partial_decode_into_fresh-in-Shards.ensures.lawful

pub returns-in-Shards-clause-refused : goal.returns-in-Shards-clause-refused
returns-in-Shards-clause-refused g c = rw c.in-Shards.is c.partial_decode_into_fresh-in-Shards.ensures.refused

pub returns-in-Opaque-clause-lawful : goal.returns-in-Opaque-clause-lawful
returns-in-Opaque-clause-lawful g c = rw c.in-Opaque.is c.partial_decode_into_fresh-in-Opaque.ensures.lawful

pub returns-in-Opaque-clause-refused : goal.returns-in-Opaque-clause-refused
returns-in-Opaque-clause-refused g c = rw c.in-Opaque.is c.partial_decode_into_fresh-in-Opaque.ensures.refused
