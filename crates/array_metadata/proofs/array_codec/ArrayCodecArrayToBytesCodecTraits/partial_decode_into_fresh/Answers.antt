use Rattle.array_metadata.proofs.array_codec.ArrayCodecArrayToBytesCodecTraits.partial_decode_into_fresh.Goals as goal

pub returns-in-Sharded-clause-lawful : goal.returns-in-Sharded-clause-lawful
returns-in-Sharded-clause-lawful g c = rw c.in-Sharded.is c.partial_decode_into_fresh.ensures.lawful

pub returns-in-Sharded-clause-refused : goal.returns-in-Sharded-clause-refused
returns-in-Sharded-clause-refused g c = rw c.in-Sharded.is c.partial_decode_into_fresh.ensures.refused

pub returns-in-Transposed-clause-lawful : goal.returns-in-Transposed-clause-lawful
returns-in-Transposed-clause-lawful g c = rw c.in-Transposed.is c.partial_decode_into_fresh-in-Transposed.ensures.lawful

pub returns-in-Transposed-clause-refused : goal.returns-in-Transposed-clause-refused
returns-in-Transposed-clause-refused g c = rw c.in-Transposed.is c.partial_decode_into_fresh-in-Transposed.ensures.refused

pub returns-in-Unsharded-clause-lawful : goal.returns-in-Unsharded-clause-lawful
returns-in-Unsharded-clause-lawful g c = rw c.in-Unsharded.is c.partial_decode_into_fresh-in-Unsharded.ensures.lawful

pub returns-in-Unsharded-clause-refused : goal.returns-in-Unsharded-clause-refused
returns-in-Unsharded-clause-refused g c = rw c.in-Unsharded.is c.partial_decode_into_fresh-in-Unsharded.ensures.refused
