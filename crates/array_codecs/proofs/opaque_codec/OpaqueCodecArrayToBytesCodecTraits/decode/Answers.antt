use Rattle.std.proofs.Common.{None}
use Rattle.parts_row_major.specs.Numbering.{count_of}
use Rattle.parts_row_major.proofs.NumberingLaws.{count_positive}
use Rattle.codec_traits.proofs.WholeArrayLaws.{whole_damaged}
use Rattle.array_codecs.proofs.opaque_codec.OpaqueCodecArrayToBytesCodecTraits.decode.Goals as goal

pub returns-clause-lawful : goal.returns-clause-lawful
returns-clause-lawful c = λ s.
    let shape = c.args.shape.now in
    whole_damaged (count_of shape) None (count_positive shape (λ i lt. c.as_slice-axes.ensures.positive i 0 lt)) (λ some. absurd (cc))
