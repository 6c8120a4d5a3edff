use Rattle.codec_traits.proofs.codec.ArrayToBytesCodecTraits.partial_decode_into.Goals as goal

pub returns-clause-written : goal.returns-clause-written
returns-clause-written g c = (c.in_ok-read.read.elements, c.put_decoded.ensures)
