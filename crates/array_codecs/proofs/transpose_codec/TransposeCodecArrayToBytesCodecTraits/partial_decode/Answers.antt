use Rattle.std.proofs.Common.{◌≡◌, refl, inr, map, None}
use Rattle.parts_arrays.specs.ArraySpec.{array_spec}
use Rattle.parts_row_major.specs.Numbering.{number_of}
use Rattle.parts_subsets.proofs.SelectionLemmas.{numbers_below}
use Rattle.storage_handles.specs.Objects.{interval_part}
use Rattle.codec_traits.proofs.ReadLemmas.{requested_answer, interval_read, elements_at}
use Rattle.codec_traits.specs.RefusalLaws.{passed_on}
use Rattle.codec_traits.specs.Reads.{cells_at}
use Rattle.array_codecs.specs.AxisOrders.{transposed}
use Rattle.array_codecs.specs.TransposeCodec.{transposed_spec}
use Rattle.codec_chains.proofs.ArrayChainSteps.{refused_as_decode}
use Rattle.array_codecs.proofs.transpose_codec.TransposeCodecArrayToBytesCodecTraits.partial_decode.Goals as goal

pub returns-in_err-array-clause-lawful : goal.returns-in_err-array-clause-lawful
returns-in_err-array-clause-lawful g c =
    let a = c.args in
    let order = a.self.now.order in
    let spec = array_spec a.shape.now a.data_type.now a.fill_value.now in
    let m = g.C.ArrayToBytesCodecTraits.meaning a.self.now.codec (transposed_spec order spec) in
    let contents = (g.H.BytesPartialDecoderTraits.state a.handle.now).contents in
    let e = c.in_err-array.field-0.0 in
    passed_on c.from_residual-in_err-array.result e _ c.from_residual-in_err-array.ensures.1 (λ s transparent axes within has.
    let read = c.in_ok-check_interval.ensures.read in
    let told = rw read.contents_same at ((rw c.in-Some.is at c.in_ok-bytes.ensures.told).told (rw read.transparent_same transparent)) in
    let same : c.in-Some.bytes.now ≡ interval_part a.interval contents = interval_read a.interval a.interval.size contents c.in-Some.bytes.now refl told in
    let cells = transposed order a.shape.now None (m.cells (interval_part a.interval contents)) in
    inr (refused_as_decode cells (cells_at cells a.shape.now (g.N.Indexer.selection a.indexer.now).points) e (rw same at c.in_err-array.ensures.lawful)))

pub returns-clause-answer : goal.returns-clause-answer
returns-clause-answer g c =
    let a = c.args in
    let shape = a.shape.now in
    let selection = g.N.Indexer.selection a.indexer.now in
    requested_answer (array_spec shape a.data_type.now a.fill_value.now) selection (map (λ point. number_of point shape) selection.points) c.in_ok-array.array c.in_ok-requested.requested
    c.in_ok-many.ensures.selection c.in_ok-array.ensures.valid.kind c.in_ok-array.ensures.array refl (numbers_below shape selection.points c.in_ok-many.ensures.inside) c.in_ok-requested.ensures.requested

pub returns-clause-cells : goal.returns-clause-cells
returns-clause-cells g c transparent =
    let a = c.args in
    let shape = a.shape.now in
    let order = a.self.now.order in
    let points = (g.N.Indexer.selection a.indexer.now).points in
    let m = g.C.ArrayToBytesCodecTraits.meaning a.self.now.codec (transposed_spec order (array_spec shape a.data_type.now a.fill_value.now)) in
    let contents = (g.H.BytesPartialDecoderTraits.state a.handle.now).contents in
    let read = c.in_ok-check_interval.ensures.read in
    let told = rw read.contents_same at ((rw c.in-Some.is at c.in_ok-bytes.ensures.told).told (rw read.transparent_same transparent)) in
    let same : c.in-Some.bytes.now ≡ interval_part a.interval contents = interval_read a.interval a.interval.size contents c.in-Some.bytes.now refl told in
    record {
      inside = c.in_ok-check_interval.ensures.inside transparent;
      read = rw (← same, c.in_ok-requested.ensures.requested)
          (elements_at (transposed order shape None (m.cells c.in-Some.bytes.now)) c.in_ok-array.array.elements shape points
          c.in_ok-array.ensures.cells c.in_ok-array.ensures.array.counted c.in_ok-many.ensures.inside);
    }
