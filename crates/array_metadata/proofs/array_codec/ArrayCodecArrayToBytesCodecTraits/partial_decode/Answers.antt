use Rattle.array_metadata.proofs.array_codec.ArrayCodecArrayToBytesCodecTraits.partial_decode.Goals as goal

pub returns-in-Sharded-clause-refused : goal.returns-in-Sharded-clause-refused
returns-in-Sharded-clause-refused g c = rw c.in-Sharded.is c.partial_decode.ensures.refused

pub returns-in-Transposed-clause-refused : goal.returns-in-Transposed-clause-refused
returns-in-Transposed-clause-refused g c = rw c.in-Transposed.is c.partial_decode-in-Transposed.ensures.refused

pub returns-in-Unsharded-clause-refused : goal.returns-in-Unsharded-clause-refused
returns-in-Unsharded-clause-refused g c = rw c.in-Unsharded.is c.partial_decode-in-Unsharded.ensures.refused
