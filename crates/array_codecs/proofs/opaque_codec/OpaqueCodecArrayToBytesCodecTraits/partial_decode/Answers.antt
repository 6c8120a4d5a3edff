use Rattle.std.proofs.Common.{None, inr}
use Rattle.parts_row_major.specs.Numbering.{count_of}
use Rattle.parts_row_major.proofs.NumberingLaws.{count_positive}
use Rattle.codec_traits.specs.RefusalLaws.{passed_on}
use Rattle.codec_traits.specs.Reads.{MayRefuseRead, cells_at}
use Rattle.codec_traits.specs.WholeArrays.{whole_cells}
use Rattle.codec_traits.proofs.WholeArrayLaws.{whole_damaged, refused_interval}
use Rattle.array_codecs.proofs.opaque_codec.OpaqueCodecArrayToBytesCodecTraits.partial_decode.Goals as goal

pub returns-in_err-check_interval-clause-lawful : goal.returns-in_err-check_interval-clause-lawful
returns-in_err-check_interval-clause-lawful g c =
    let a = c.args in
    let e = c.in_err-check_interval.field-0.0 in
    let cells = whole_cells (count_of a.shape.now) None in
    passed_on c.from_residual-in_err-check_interval.result e _ c.from_residual-in_err-check_interval.ensures.1 (λ s transparent axes within has.
    refused_interval (g.H.BytesPartialDecoderTraits.state a.handle.now) (g.H.BytesPartialDecoderTraits.state c.check_interval.new.handle) a.interval
    (MayRefuseRead cells (cells_at cells a.shape.now (g.N.Indexer.selection a.indexer.now).points)) e c.in_err-check_interval.ensures.refused transparent has)

pub returns-clause-lawful : goal.returns-clause-lawful
returns-clause-lawful g c = λ s transparent axes within has.
    let shape = c.args.shape.now in
    inr (whole_damaged (count_of shape) None (count_positive shape (λ i lt. c.as_slice-axes.ensures.positive i 0 lt)) (λ some. absurd (cc)))
