use Rattle.codec_vlen.proofs.default_codec.DefaultArrayToBytesCodecArrayToBytesCodecTraits.encode.Goals as goal

pub returns-in-Vlen-clause-written : goal.returns-in-Vlen-clause-written
returns-in-Vlen-clause-written c = rw c.in-Vlen.is c.encode-in-Vlen.ensures.written

pub returns-in-Vlen-clause-lawful : goal.returns-in-Vlen-clause-lawful
returns-in-Vlen-clause-lawful c = rw c.in-Vlen.is c.encode-in-Vlen.ensures.lawful
