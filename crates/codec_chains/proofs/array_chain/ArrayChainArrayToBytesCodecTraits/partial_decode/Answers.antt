use Rattle.std.proofs.Common.{◌≡◌, refl, inr, map}
use Rattle.parts_arrays.specs.ArraySpec.{array_spec}
use Rattle.parts_row_major.specs.Numbering.{count_of, number_of}
use Rattle.parts_subsets.proofs.SelectionLemmas.{numbers_below}
use Rattle.storage_handles.specs.Objects.{interval_part}
use Rattle.codec_traits.proofs.ReadLemmas.{requested_answer, interval_read}
use Rattle.codec_traits.specs.RefusalLaws.{passed_on}
use Rattle.codec_traits.specs.Reads.{cells_at}
use Rattle.codec_traits.proofs.WholeArrayLaws.{whole_read}
use Rattle.codec_chains.specs.ArrayChains.{chain_elements, array_chain_cells}
use Rattle.codec_chains.proofs.ArrayChainSteps.{refused_as_decode}
use Rattle.codec_chains.proofs.array_chain.ArrayChainArrayToBytesCodecTraits.partial_decode.Goals as goal

pub returns-in_err-array-clause-lawful : goal.returns-in_err-array-clause-lawful
returns-in_err-array-clause-lawful g c =
    let a = c.args in
    let spec_is = array_spec a.shape.now a.data_type.now a.fill_value.now in
    let m = g.C.ArrayToBytesCodecTraits.meaning a.self.now.array_to_bytes spec_is in
    let coding = g.A.ArrayToArrayCodecTraits.coding a.self.now.array_to_array in
    let contents = (g.H.BytesPartialDecoderTraits.state a.handle.now).contents in
    let e = c.in_err-array.field-0.0 in
    passed_on c.from_residual-in_err-array.result e _ c.from_residual-in_err-array.ensures.1 (λ s transparent axes within has.
    let read = c.in_ok-check_interval.ensures.read in
    let told = rw read.contents_same at ((rw c.in-Some.is at c.in_ok-bytes.ensures.told).told (rw read.transparent_same transparent)) in
    let same : c.in-Some.bytes.now ≡ interval_part a.interval contents = interval_read a.interval a.interval.size contents c.in-Some.bytes.now refl told in
    let cells = array_chain_cells coding m spec_is (interval_part a.interval contents) in
    inr (refused_as_decode cells (cells_at cells a.shape.now (g.N.Indexer.selection a.indexer.now).points) e (rw same at c.in_err-array.ensures.lawful)))

pub returns-clause-answer : goal.returns-clause-answer
returns-clause-answer g c =
    let a = c.args in
    let shape = a.shape.now in
    let selection = g.N.Indexer.selection a.indexer.now in
    requested_answer (array_spec shape a.data_type.now a.fill_value.now) selection (map (λ point. number_of point shape) selection.points) c.in_ok-array.array c.in_ok-requested.requested
    c.in_ok-many.ensures.selection c.in_ok-array.ensures.valid.kind c.in_ok-array.ensures.array refl (numbers_below shape selection.points c.in_ok-many.ensures.inside) c.in_ok-requested.ensures.requested

pub returns-clause-cells : goal.returns-clause-cells
unfolding array_chain_cells
returns-clause-cells g c transparent =
    let a = c.args in
    let shape = a.shape.now in
    let spec_is = array_spec shape a.data_type.now a.fill_value.now in
    let m = g.C.ArrayToBytesCodecTraits.meaning a.self.now.array_to_bytes spec_is in
    let coding = g.A.ArrayToArrayCodecTraits.coding a.self.now.array_to_array in
    let contents = (g.H.BytesPartialDecoderTraits.state a.handle.now).contents in
    let has = c.in_ok-check_interval.ensures.inside transparent in
    let read = c.in_ok-check_interval.ensures.read in
    let told = rw read.contents_same at ((rw c.in-Some.is at c.in_ok-bytes.ensures.told).told (rw read.transparent_same transparent)) in
    let same : c.in-Some.bytes.now ≡ interval_part a.interval contents = interval_read a.interval a.interval.size contents c.in-Some.bytes.now refl told in
    whole_read (chain_elements coding m) shape a.interval contents (g.N.Indexer.selection a.indexer.now).points c.in-Some.bytes.now c.in_ok-array.array c.in_ok-requested.requested
    c.in_ok-array.ensures.elements same has c.in_ok-array.ensures.array.counted c.in_ok-many.ensures.inside c.in_ok-requested.ensures.requested
