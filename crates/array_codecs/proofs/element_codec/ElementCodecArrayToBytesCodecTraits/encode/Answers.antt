use Rattle.array_codecs.proofs.element_codec.ElementCodecArrayToBytesCodecTraits.encode.Goals as goal

pub returns-in-Chain-clause-written : goal.returns-in-Chain-clause-written
returns-in-Chain-clause-written c = rw c.in-Chain.is c.encode-in-Chain.ensures.written
