use Rattle.codec_vlen.proofs.default_codec.DefaultArrayToBytesCodecArrayToBytesCodecTraits.partial_decode_into_fresh.Goals as goal

pub returns-in-Bytes-clause-lawful : goal.returns-in-Bytes-clause-lawful
returns-in-Bytes-clause-lawful g c = rw c.in-Bytes.is c.partial_decode_into_fresh.ensures.lawful

pub returns-in-Bytes-clause-refused : goal.returns-in-Bytes-clause-refused
returns-in-Bytes-clause-refused g c = rw c.in-Bytes.is c.partial_decode_into_fresh.ensures.refused

pub returns-in-Vlen-clause-lawful : goal.returns-in-Vlen-clause-lawful
returns-in-Vlen-clause-lawful g c = rw c.in-Vlen.is c.partial_decode_into_fresh-in-Vlen.ensures.lawful

pub returns-in-Vlen-clause-refused : goal.returns-in-Vlen-clause-refused
returns-in-Vlen-clause-refused g c = rw c.in-Vlen.is c.partial_decode_into_fresh-in-Vlen.ensures.refused
