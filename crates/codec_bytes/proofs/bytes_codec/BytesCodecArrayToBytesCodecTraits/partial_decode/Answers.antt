use Rattle.std.proofs.Common.{◌∙◌, refl, sym, inl, inr, map}
use Rattle.parts_arrays.specs.ArraySpec.{array_spec}
use Rattle.parts_row_major.specs.Numbering.{number_of}
use Rattle.parts_subsets.proofs.SelectionLemmas.{numbers_below}
use Rattle.codec_bytes.specs.BytesCodecLaws.{bytes_damaged}
use Rattle.codec_bytes.proofs.BytesCodecSteps.{whole_elements, decoded, requested_past, stored_valid}
use Rattle.codec_traits.proofs.ReadLemmas.{length-interval_part, requested_answer, elements_at, interval_read}
use Rattle.codec_bytes.proofs.bytes_codec.BytesCodecArrayToBytesCodecTraits.partial_decode.Goals as goal

pub returns-then-interval-total-clause-lawful : goal.returns-then-interval-total-clause-lawful
returns-then-interval-total-clause-lawful g c s transparent axes within has =
    let m = c.in_ok-size.ensures.measured in
    let long = length-interval_part _ _ has in
    inr (bytes_damaged c.args.self.now (array_spec c.args.shape.now c.args.data_type.now c.args.fill_value.now) _ m.some (λ h. c.if-interval-total.true (sym long ∙ (h ∙ sym m.total_is))))

pub returns-in_default-clause-lawful : goal.returns-in_default-clause-lawful
returns-in_default-clause-lawful g c s transparent axes within has =
    let m = c.in_ok-size.ensures.measured in
    let long = length-interval_part _ _ has in
    let past = rw c.in_default.is at c.checked_mul.ensures in
    inr (inr (inl (requested_past c.args.self.now (array_spec c.args.shape.now c.args.data_type.now c.args.fill_value.now) c.in_ok-size.field-0.size c.in_ok-size.field-0.count c.in_ok-size.field-0.total c.in_ok-size.field-0.reversed
    c.in_ok-count.count _ _ m (long ∙ c.if-interval-total.false) c.in_ok-count.ensures.inside c.in_ok-count.ensures.count past)))

pub requested_in_memory-requires-clause-whole : goal.requested_in_memory-requires-clause-whole
requested_in_memory-requires-clause-whole g c =
    whole_elements c.args.self.now (array_spec c.args.shape.now c.args.data_type.now c.args.fill_value.now) _ _ _ _ c.in-Some-2.bytes.now c.in_ok-size.ensures.measured
    (rw c.in-Some-2.is at c.in_ok-bytes.ensures.told).requested

pub requested_in_memory-requires-clause-valid : goal.requested_in_memory-requires-clause-valid
requested_in_memory-requires-clause-valid g c =
    stored_valid c.args.self.now (array_spec c.args.shape.now c.args.data_type.now c.args.fill_value.now) _ _ _ _ c.in-Some-2.bytes.now c.in_ok-size.ensures.measured
    (rw c.in-Some-2.is at c.in_ok-bytes.ensures.told).requested

pub returns-clause-answer : goal.returns-clause-answer
returns-clause-answer g c =
    let d = decoded c.args.self.now (array_spec c.args.shape.now c.args.data_type.now c.args.fill_value.now) _ _ _ _ c.in-Some-2.bytes.now _ _
    c.in_ok-size.ensures.measured (rw c.in-Some-2.is at c.in_ok-bytes.ensures.told).requested refl refl in
    let shape = c.args.shape.now in
    let selection = g.N.Indexer.selection c.args.indexer.now in
    requested_answer (array_spec shape c.args.data_type.now c.args.fill_value.now) selection (map (λ point. number_of point shape) selection.points) _ c.in_ok-requested.requested
    c.in_ok-count.ensures.selection d.kind d.is_array refl (numbers_below shape selection.points c.in_ok-count.ensures.inside) c.in_ok-requested.ensures.requested

pub returns-clause-cells : goal.returns-clause-cells
returns-clause-cells g c transparent =
    let d = decoded c.args.self.now (array_spec c.args.shape.now c.args.data_type.now c.args.fill_value.now) _ _ _ _ c.in-Some-2.bytes.now _ _
    c.in_ok-size.ensures.measured (rw c.in-Some-2.is at c.in_ok-bytes.ensures.told).requested refl refl in
    let a = c.args in
    let has = c.in_ok-check_interval.ensures.inside transparent in
    let read = c.in_ok-check_interval.ensures.read in
    let told = rw read.contents_same at ((rw c.in-Some-2.is at c.in_ok-bytes.ensures.told).told (rw read.transparent_same transparent)) in
    let bytes_are = interval_read a.interval c.in_ok-size.field-0.total (g.H.BytesPartialDecoderTraits.state a.handle.now).contents c.in-Some-2.bytes.now c.if-interval-total.false told in
    let requested = c.in_ok-requested.ensures.requested in
    record {
      inside = has;
      read = rw (← bytes_are, requested) (elements_at _ _ a.shape.now _ d.cells d.is_array.counted c.in_ok-count.ensures.inside);
    }
