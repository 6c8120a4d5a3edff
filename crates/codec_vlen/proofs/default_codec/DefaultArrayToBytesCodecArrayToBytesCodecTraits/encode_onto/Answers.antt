use Rattle.codec_vlen.proofs.default_codec.DefaultArrayToBytesCodecArrayToBytesCodecTraits.encode_onto.Goals as goal

pub returns-in-Vlen-clause-lawful : goal.returns-in-Vlen-clause-lawful
returns-in-Vlen-clause-lawful c = rw c.in-Vlen.is c.encode_onto-in-Vlen.ensures.lawful
