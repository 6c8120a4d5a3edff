use Rattle.array_codecs.proofs.element_codec.ElementCodecArrayToBytesCodecTraits.partial_decode_into_fresh.Goals as goal

pub returns-in-Alone-clause-lawful : goal.returns-in-Alone-clause-lawful
returns-in-Alone-clause-lawful g c = rw c.in-Alone.is c.partial_decode_into_fresh.ensures.lawful

pub returns-in-Alone-clause-refused : goal.returns-in-Alone-clause-refused
returns-in-Alone-clause-refused g c = rw c.in-Alone.is c.partial_decode_into_fresh.ensures.refused

pub returns-in-Chain-clause-lawful : goal.returns-in-Chain-clause-lawful
returns-in-Chain-clause-lawful g c = rw c.in-Chain.is c.partial_decode_into_fresh-in-Chain.ensures.lawful

pub returns-in-Chain-clause-refused : goal.returns-in-Chain-clause-refused
returns-in-Chain-clause-refused g c = rw c.in-Chain.is c.partial_decode_into_fresh-in-Chain.ensures.refused
