use Rattle.codec_chains.proofs.either_codec.EitherCodecArrayToBytesCodecTraits.partial_decode_into_fresh.Goals as goal

pub returns-in-First-clause-lawful : goal.returns-in-First-clause-lawful
returns-in-First-clause-lawful g c = rw c.in-First.is c.partial_decode_into_fresh.ensures.lawful

pub returns-in-First-clause-refused : goal.returns-in-First-clause-refused
returns-in-First-clause-refused g c = rw c.in-First.is c.partial_decode_into_fresh.ensures.refused

pub returns-in-Second-clause-lawful : goal.returns-in-Second-clause-lawful
returns-in-Second-clause-lawful g c = rw c.in-Second.is c.partial_decode_into_fresh-in-Second.ensures.lawful

pub returns-in-Second-clause-refused : goal.returns-in-Second-clause-refused
returns-in-Second-clause-refused g c = rw c.in-Second.is c.partial_decode_into_fresh-in-Second.ensures.refused
