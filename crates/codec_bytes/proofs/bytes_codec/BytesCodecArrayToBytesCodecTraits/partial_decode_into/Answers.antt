use Rattle.std.proofs.Common.{◌≡◌, ◌∙◌, ℕ, List, Option, Some, refl, sym, inl, inr, map}
use Rattle.std.proofs.lemmas.Result.{IfOk-weaker}
use Rattle.parts_row_major.specs.Numbering.{number_of}
use Rattle.parts_arrays.specs.Arrays.{element_of}
use Rattle.codec_traits.specs.Reads.{stored_spec, cells_at, IsOverwritten}
use Rattle.storage_handles.specs.Objects.{interval_part}
use Rattle.codec_bytes.specs.BytesCodec.{bytes_cells}
use Rattle.codec_bytes.specs.BytesCodecLaws.{bytes_damaged}
use Rattle.codec_bytes.proofs.BytesCodecSteps.{whole_elements, decoded, requested_past, in_memory, stored_valid}
use Rattle.codec_traits.proofs.ReadLemmas.{length-interval_part, elements_at, interval_read}
use Rattle.codec_bytes.proofs.bytes_codec.BytesCodecArrayToBytesCodecTraits.partial_decode_into.Goals as goal

pub returns-then-interval-total-clause-lawful : goal.returns-then-interval-total-clause-lawful
returns-then-interval-total-clause-lawful g c s kind counted transparent axes within has =
    let m = c.in_ok-size.ensures.measured in
    let long = length-interval_part _ _ has in
    inr (bytes_damaged c.args.self.now (stored_spec c.args.stored.now) _ m.some (λ h. c.if-interval-total.true (sym long ∙ (h ∙ sym m.total_is))))

pub returns-in_default-clause-lawful : goal.returns-in_default-clause-lawful
returns-in_default-clause-lawful g c s kind counted transparent axes within has =
    let m = c.in_ok-size.ensures.measured in
    let long = length-interval_part _ _ has in
    let past = rw c.in_default.is at c.checked_mul.ensures in
    inr (inr (inl (requested_past c.args.self.now (stored_spec c.args.stored.now) c.in_ok-size.field-0.size c.in_ok-size.field-0.count c.in_ok-size.field-0.total c.in_ok-size.field-0.reversed
    c.in_ok-count.count _ _ m (long ∙ c.if-interval-total.false) c.in_ok-count.ensures.inside c.in_ok-count.ensures.count past)))

pub put_in_memory-requires-clause-whole : goal.put_in_memory-requires-clause-whole
put_in_memory-requires-clause-whole g c =
    whole_elements c.args.self.now (stored_spec c.args.stored.now) _ _ _ _ c.in-Some-2.bytes.now c.in_ok-size.ensures.measured
    (rw c.in-Some-2.is at c.in_ok-bytes.ensures.told).requested

pub put_in_memory-requires-clause-valid : goal.put_in_memory-requires-clause-valid
put_in_memory-requires-clause-valid g c =
    stored_valid c.args.self.now (stored_spec c.args.stored.now) _ _ _ _ c.in-Some-2.bytes.now c.in_ok-size.ensures.measured
    (rw c.in-Some-2.is at c.in_ok-bytes.ensures.told).requested

pub returns-clause-written : goal.returns-clause-written
returns-clause-written g c =
    let shape = c.args.stored.now.shape.now in
    let requested = map (element_of (in_memory c.in_ok-size.field-0.size c.in_ok-size.field-0.reversed c.in-Some-2.bytes.now)) (map (λ point. number_of point shape) (g.N.Indexer.selection c.args.indexer.now).points) in
    IfOk-weaker c.put_in_memory.result _ (λ _. IsOverwritten c.args.target.now c.put_in_memory.new.target) (λ _ written. (requested, written)) c.put_in_memory.ensures.written

pub returns-clause-cells : goal.returns-clause-cells
returns-clause-cells g c =
    let d = decoded c.args.self.now (stored_spec c.args.stored.now) _ _ _ _ c.in-Some-2.bytes.now _ _
    c.in_ok-size.ensures.measured (rw c.in-Some-2.is at c.in_ok-bytes.ensures.told).requested refl refl in
    let a = c.args in
    let shape = a.stored.now.shape.now in
    let points = (g.N.Indexer.selection a.indexer.now).points in
    let requested = map (element_of (in_memory c.in_ok-size.field-0.size c.in_ok-size.field-0.reversed c.in-Some-2.bytes.now)) (map (λ point. number_of point shape) points) in
    let read = c.in_ok-check_interval.ensures.read in
    IfOk-weaker c.put_in_memory.result _ _ (λ _ written transparent.
    let told = rw read.contents_same at ((rw c.in-Some-2.is at c.in_ok-bytes.ensures.told).told (rw read.transparent_same transparent)) in
    let bytes_are = interval_read a.stored.now.interval c.in_ok-size.field-0.total (g.H.BytesPartialDecoderTraits.state a.handle.now).contents c.in-Some-2.bytes.now c.if-interval-total.false told in
    let there : cells_at (bytes_cells a.self.now (stored_spec a.stored.now) (interval_part a.stored.now.interval (g.H.BytesPartialDecoderTraits.state a.handle.now).contents)) shape points ≡ map {B = Option (List ℕ)} Some requested =
    rw (← bytes_are) (elements_at _ _ shape _ d.cells d.is_array.counted c.in_ok-count.ensures.inside) in
    (c.in_ok-check_interval.ensures.inside transparent, record { elements = requested; there = there; written = written }))
    c.put_in_memory.ensures.written
