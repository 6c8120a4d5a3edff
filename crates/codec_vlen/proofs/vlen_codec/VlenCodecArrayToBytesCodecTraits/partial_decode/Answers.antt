use Rattle.std.proofs.Common.{◌≡◌, refl, inr, map}
use Rattle.parts_arrays.specs.ArraySpec.{array_spec}
use Rattle.parts_row_major.specs.Numbering.{count_of, number_of}
use Rattle.parts_subsets.proofs.SelectionLemmas.{numbers_below}
use Rattle.storage_handles.specs.Objects.{interval_part}
use Rattle.codec_traits.proofs.ReadLemmas.{requested_answer, interval_read}
use Rattle.codec_traits.specs.RefusalLaws.{passed_on}
use Rattle.codec_traits.specs.Reads.{MayRefuseRead, cells_at}
use Rattle.codec_traits.proofs.WholeArrayLaws.{refused_whole_read, refused_interval, refused_range, whole_read}
use Rattle.codec_vlen.specs.Text.{vlen_elements}
use Rattle.codec_vlen.specs.VlenCodec.{vlen_cells}
use Rattle.codec_vlen.proofs.VlenSteps.{text_array}
use Rattle.codec_vlen.proofs.vlen_codec.VlenCodecArrayToBytesCodecTraits.partial_decode.Goals as goal

pub returns-in_err-check_interval-clause-lawful : goal.returns-in_err-check_interval-clause-lawful
returns-in_err-check_interval-clause-lawful g c =
    let a = c.args in
    let e = c.in_err-check_interval.field-0.0 in
    let cells = vlen_cells (array_spec a.shape.now a.data_type.now a.fill_value.now) (interval_part a.interval (g.H.BytesPartialDecoderTraits.state a.handle.now).contents) in
    passed_on c.from_residual-in_err-check_interval.result e _ c.from_residual-in_err-check_interval.ensures.1 (λ s transparent axes within has.
    refused_interval (g.H.BytesPartialDecoderTraits.state a.handle.now) (g.H.BytesPartialDecoderTraits.state c.check_interval.new.handle) a.interval
    (MayRefuseRead cells (cells_at cells a.shape.now (g.N.Indexer.selection a.indexer.now).points)) e c.in_err-check_interval.ensures.refused transparent has)

pub returns-in_err-bytes-clause-lawful : goal.returns-in_err-bytes-clause-lawful
returns-in_err-bytes-clause-lawful g c =
    let a = c.args in
    let e = c.in_err-bytes.field-0.0 in
    let state = g.H.BytesPartialDecoderTraits.state in
    let cells = vlen_cells (array_spec a.shape.now a.data_type.now a.fill_value.now) (interval_part a.interval (state a.handle.now).contents) in
    let refused = rw c.in_err-bytes.was at c.read_range.follows.holds-at-none.1 in
    passed_on c.from_residual-in_err-bytes.result e _ c.from_residual-in_err-bytes.ensures.1 (λ s transparent axes within has.
    refused_range (state a.handle.now) (state c.check_interval.new.handle) (state c.read_range.follows.lender-at-none) a.interval
    (MayRefuseRead cells (cells_at cells a.shape.now (g.N.Indexer.selection a.indexer.now).points)) tt c.in_ok-check_interval.ensures.read e transparent has refused)

pub returns-in_err-array-clause-lawful : goal.returns-in_err-array-clause-lawful
unfolding vlen_cells
returns-in_err-array-clause-lawful g c =
    let a = c.args in
    let count = count_of a.shape.now in
    let contents = (g.H.BytesPartialDecoderTraits.state a.handle.now).contents in
    let e = c.in_err-array.field-0.0 in
    passed_on c.from_residual-in_err-array.result e _ c.from_residual-in_err-array.ensures.1 (λ s transparent axes within has.
    let read = c.in_ok-check_interval.ensures.read in
    let told = rw read.contents_same at ((rw c.in-Some.is at c.in_ok-bytes.ensures.told).told (rw read.transparent_same transparent)) in
    let same : c.in-Some.bytes.now ≡ interval_part a.interval contents = interval_read a.interval a.interval.size contents c.in-Some.bytes.now refl told in
    inr (refused_whole_read (vlen_elements count) count c.in-Some.bytes.now (interval_part a.interval contents) a.shape.now (g.N.Indexer.selection a.indexer.now).points e
    c.in_ok-count.ensures.some same (rw c.in_ok-count.ensures.count at c.in_err-array.ensures.refused)))

pub requested_elements-requires-clause-valid : goal.requested_elements-requires-clause-valid
requested_elements-requires-clause-valid g c =
    let a = c.args in
    (text_array (array_spec a.shape.now a.data_type.now a.fill_value.now) c.in-Some.bytes.now c.in_ok-array.array c.in_ok-count.count c.in_ok-count.ensures.serves c.in_ok-count.ensures.count
    c.in_ok-array.ensures.kind c.in_ok-array.ensures.elements).valid

pub returns-clause-answer : goal.returns-clause-answer
returns-clause-answer g c =
    let a = c.args in
    let shape = a.shape.now in
    let selection = g.N.Indexer.selection a.indexer.now in
    let array = text_array (array_spec shape a.data_type.now a.fill_value.now) c.in-Some.bytes.now c.in_ok-array.array c.in_ok-count.count c.in_ok-count.ensures.serves c.in_ok-count.ensures.count
    c.in_ok-array.ensures.kind c.in_ok-array.ensures.elements in
    requested_answer (array_spec shape a.data_type.now a.fill_value.now) selection (map (λ point. number_of point shape) selection.points) c.in_ok-array.array c.in_ok-requested.requested
    c.in_ok-many.ensures.selection array.kind array.is_array refl (numbers_below shape selection.points c.in_ok-many.ensures.inside) c.in_ok-requested.ensures.requested

pub returns-clause-cells : goal.returns-clause-cells
unfolding vlen_cells
returns-clause-cells g c transparent =
    let a = c.args in
    let shape = a.shape.now in
    let contents = (g.H.BytesPartialDecoderTraits.state a.handle.now).contents in
    let array = text_array (array_spec shape a.data_type.now a.fill_value.now) c.in-Some.bytes.now c.in_ok-array.array c.in_ok-count.count c.in_ok-count.ensures.serves c.in_ok-count.ensures.count
    c.in_ok-array.ensures.kind c.in_ok-array.ensures.elements in
    let has = c.in_ok-check_interval.ensures.inside transparent in
    let read = c.in_ok-check_interval.ensures.read in
    let told = rw read.contents_same at ((rw c.in-Some.is at c.in_ok-bytes.ensures.told).told (rw read.transparent_same transparent)) in
    let same : c.in-Some.bytes.now ≡ interval_part a.interval contents = interval_read a.interval a.interval.size contents c.in-Some.bytes.now refl told in
    whole_read (vlen_elements (count_of shape)) shape a.interval contents (g.N.Indexer.selection a.indexer.now).points c.in-Some.bytes.now c.in_ok-array.array c.in_ok-requested.requested
    array.elements same has array.is_array.counted c.in_ok-many.ensures.inside c.in_ok-requested.ensures.requested
