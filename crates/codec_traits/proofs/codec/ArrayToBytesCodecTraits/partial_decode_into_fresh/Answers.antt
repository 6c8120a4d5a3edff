use Rattle.codec_traits.proofs.OverwriteLemmas.{written_or_kept}
use Rattle.codec_traits.proofs.codec.ArrayToBytesCodecTraits.partial_decode_into_fresh.Goals as goal

pub returns-clause-written : goal.returns-clause-written
returns-clause-written g c =
    written_or_kept c.partial_decode_into.result c.args.target.now c.partial_decode_into.new.target c.partial_decode_into.ensures.written c.partial_decode_into.ensures.kept
