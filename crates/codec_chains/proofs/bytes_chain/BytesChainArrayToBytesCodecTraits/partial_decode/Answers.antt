use Rattle.std.proofs.Common.{◌≡◌, ◌<◌, ◌∙◌, refl, inr}
use Rattle.parts_arrays.specs.ArraySpec.{array_spec}
use Rattle.parts_row_major.specs.Numbering.{count_of}
use Rattle.parts_row_major.proofs.NumberingLaws.{count_positive}
use Rattle.storage_handles.specs.Objects.{interval_part}
use Rattle.codec_traits.proofs.ReadLemmas.{interval_read}
use Rattle.codec_chains.specs.Chains.{chain_bytes}
use Rattle.codec_chains.proofs.ChainSteps.{refused_read, refused_inner, whole_lies_in}
use Rattle.codec_traits.specs.RefusalLaws.{passed_on}
use Rattle.codec_chains.proofs.bytes_chain.BytesChainArrayToBytesCodecTraits.partial_decode.Goals as goal

pub returns-in_err-inner-clause-lawful : goal.returns-in_err-inner-clause-lawful
returns-in_err-inner-clause-lawful g c =
    let a = c.args in
    let m = g.C.ArrayToBytesCodecTraits.meaning a.self.now.array_to_bytes (array_spec a.shape.now a.data_type.now a.fill_value.now) in
    let contents = (g.H.BytesPartialDecoderTraits.state a.handle.now).contents in
    let e = c.in_err-inner.field-0.0 in
    let some : 0 < count_of a.shape.now = count_positive a.shape.now (λ i lt. c.as_slice-axes.ensures.positive i 0 lt) in
    passed_on c.from_residual-in_err-inner.result e _ c.from_residual-in_err-inner.ensures.1 (λ s transparent axes within has.
    let read = c.in_ok-check_interval.ensures.read in
    let told = rw read.contents_same at ((rw c.in-Some.is at c.in_ok-bytes.ensures.told).told (rw read.transparent_same transparent)) in
    let same : c.in-Some.bytes.now ≡ interval_part a.interval contents = interval_read a.interval a.interval.size contents c.in-Some.bytes.now refl told in
    inr (refused_read (chain_bytes (g.B.BytesToBytesCodecTraits.coding a.self.now.bytes_to_bytes) m) m.cells (count_of a.shape.now) c.in-Some.bytes.now (interval_part a.interval contents)
    a.shape.now (g.N.Indexer.selection a.indexer.now).points e some same c.in_err-inner.ensures.refused))

pub returns-in_err-cells-clause-lawful : goal.returns-in_err-cells-clause-lawful
returns-in_err-cells-clause-lawful g c =
    let a = c.args in
    let m = g.C.ArrayToBytesCodecTraits.meaning a.self.now.array_to_bytes (array_spec a.shape.now a.data_type.now a.fill_value.now) in
    let contents = (g.H.BytesPartialDecoderTraits.state a.handle.now).contents in
    let decoding = chain_bytes (g.B.BytesToBytesCodecTraits.coding a.self.now.bytes_to_bytes) m in
    let e = c.in_err-cells.field-0.0 in
    passed_on c.from_residual-in_err-cells.result e _ c.from_residual-in_err-cells.ensures.1 (λ s transparent axes within has.
    let read = c.in_ok-check_interval.ensures.read in
    let told = rw read.contents_same at ((rw c.in-Some.is at c.in_ok-bytes.ensures.told).told (rw read.transparent_same transparent)) in
    let same : c.in-Some.bytes.now ≡ interval_part a.interval contents = interval_read a.interval a.interval.size contents c.in-Some.bytes.now refl told in
    let held = c.new-inner_handle.ensures ∙ c.deref.ensures.value in
    inr (refused_inner m.cells (count_of a.shape.now) (decoding (interval_part a.interval contents)) _ c.new-inner_handle.result _ a.shape.now (g.N.Indexer.selection a.indexer.now).points e
    (rw same at c.in_ok-inner.ensures.decoded) held c.len.ensures
    (c.in_err-cells.ensures.lawful s refl axes within (whole_lies_in _ c.new-inner_handle.result _ held c.len.ensures))))
