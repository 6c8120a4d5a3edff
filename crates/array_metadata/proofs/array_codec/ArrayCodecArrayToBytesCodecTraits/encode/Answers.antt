use Rattle.array_metadata.proofs.array_codec.ArrayCodecArrayToBytesCodecTraits.encode.Goals as goal

pub returns-in-Sharded-clause-written : goal.returns-in-Sharded-clause-written
returns-in-Sharded-clause-written c = rw c.in-Sharded.is c.encode.ensures.written

pub returns-in-Transposed-clause-written : goal.returns-in-Transposed-clause-written
returns-in-Transposed-clause-written c = rw c.in-Transposed.is c.encode-in-Transposed.ensures.written

pub returns-in-Unsharded-clause-written : goal.returns-in-Unsharded-clause-written
returns-in-Unsharded-clause-written c = rw c.in-Unsharded.is c.encode-in-Unsharded.ensures.written

pub returns-in-Sharded-clause-lawful : goal.returns-in-Sharded-clause-lawful
returns-in-Sharded-clause-lawful c = rw c.in-Sharded.is c.encode.ensures.lawful

pub returns-in-Transposed-clause-refused : goal.returns-in-Transposed-clause-refused
returns-in-Transposed-clause-refused c = rw c.in-Transposed.is c.encode-in-Transposed.ensures.refused
