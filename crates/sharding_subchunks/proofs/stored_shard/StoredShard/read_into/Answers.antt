use Rattle.std.proofs.Common.{◌≡◌, ◌≢◌, ◌∙◌, ◌+◌, [], length, sym, ap, rules, arith}
use Rattle.parts_row_major.specs.Numbering.{count_of, number_of}
use Rattle.std.proofs.lemmas.List.{length-map}
use Rattle.parts_arrays.specs.declared.data_type.DataTypeSize.TheVariants.{Fixed}
use Rattle.parts_errors.specs.Words.{Refusals}
use Rattle.storage_handles.specs.declared.bytes.Interval.{Interval}
use Rattle.storage_handles.specs.Objects.{interval_part, IntervalRefusals, ObjectRefusals}
use Rattle.codec_traits.specs.Reads.{RequestRefusals}
use Rattle.codec_traits.specs.Refusals.{RefusesUnserved}
use Rattle.parts_row_major.specs.Subsets.{Subset, numbers_in, points_of}
use Rattle.parts_subsets.specs.Selections.{subset_selection}
use Rattle.parts_arrays.specs.Types.{size_of}
use Rattle.parts_row_major.proofs.SubsetLaws.{length-points_of}
use Rattle.parts_subsets.proofs.SelectionLemmas.{numbers_of-points_of, inside-points_of}
use Rattle.sharding_subchunks.specs.steps.Inner.{spec_of_subchunks}
use Rattle.sharding_format.specs.Index.{slot_at}
use Rattle.sharding_format.proofs.ReadSlotLemmas.{positions_read, positions_refused}
use Rattle.sharding_subchunks.proofs.TargetLemmas.{fitting_target, read_through}
use Rattle.sharding_format.specs.declared.slot.Slot.TheVariants.{InRange}
use Rattle.sharding_subchunks.proofs.stored_shard.StoredShard.read_into.Goals as goal

pub returns-in-Ok-clause-cells : goal.returns-in-Ok-clause-cells
returns-in-Ok-clause-cells g c = λ transparent.
    let a = c.args in
    let s = a.self.now.subchunks in
    let sub = s.shape.now in
    let contents = (g.H.BytesPartialDecoderTraits.state a.handle.now).contents in
    let cells = (g.I.ArrayToBytesCodecTraits.meaning s.codec.now (spec_of_subchunks s)).cells in
    let subset = a.overlap.now.in_subchunk in
    let stored = a.self.now in
    let fits = rw (stored.len, c.in-InRange.is) at c.slot-slot.ensures.fits in
    let slot : slot_at stored.interval.size stored.index.now.numbers.items a.number ≡ InRange c.in-InRange.offset c.in-InRange.size =
    sym (rw stored.len at c.slot-slot.ensures.slot) ∙ c.in-InRange.is in
    let found = c.in-Ok.ensures.cells transparent in
    let positions = numbers_in subset sub in
    let counted : length positions ≡ count_of a.overlap.now.in_subset.shape = ap length (numbers_of-points_of subset sub) ∙ length-map (points_of subset) (λ point. number_of point sub) ∙ length-points_of subset ∙ c.requires.same in
    let read = positions_read cells (spec_of_subchunks s) a.self.now.interval contents c.in-InRange.offset c.in-InRange.size (subset_selection subset) fits
    (inside-points_of subset sub c.requires.selection.within) found.1.elements (record { inside = found.0; read = found.1.there }) in
    let size = ap length (sym c.as_ne_bytes-element.ensures) in
    let reference = found.1.written.reference in
    rw slot
    (read_through cells (interval_part a.self.now.interval contents) (InRange c.in-InRange.offset c.in-InRange.size) positions a.overlap.now.in_subset a.axes.now (length s.fill_value.now) (size_of s.data_type.now) found.1.elements
    c.over-target.result c.partial_decode_into_fresh.new.target a.bytes.now _ (rw c.as_ne_bytes-element.ensures at c.over-target.ensures.element_size) c.over-target.ensures.shape c.over-target.ensures.subset
    (search rules) (search rules) counted (rw (numbers_of-points_of subset sub) read) found.1.written)

pub returns-in-Err-clause-refused : goal.returns-in-Err-clause-refused
returns-in-Err-clause-refused g c =
    let a = c.args in
    let s = a.self.now.subchunks in
    let x = g.I.ArrayToBytesCodecTraits in
    let h = g.H.BytesPartialDecoderTraits in
    let sub_g = spec_of_subchunks s in
    let m = x.meaning s.codec.now sub_g in
    let stored = a.self.now in
    let fits = rw (stored.len, c.in-InRange.is) at c.slot-slot.ensures.fits in
    let slot : slot_at stored.interval.size stored.index.now.numbers.items a.number ≡ InRange c.in-InRange.offset c.in-InRange.size =
    sym (rw stored.len at c.slot-slot.ensures.slot) ∙ c.in-InRange.is in
    let subset = a.overlap.now.in_subchunk in
    let requested = subset_selection subset in
    let inside = inside-points_of subset s.shape.now c.requires.selection.within in
    let target = c.over-target.result in
    let kind : size_of s.data_type.now ≡ Fixed target.element_size = c.requires.fixed ∙ ap Fixed (ap length (sym c.as_ne_bytes-element.ensures) ∙ sym c.over-target.ensures.element_size) in
    let counted : count_of target.subset.now.shape ≡ length (points_of subset) = ap (λ (r : Subset). count_of r.shape) c.over-target.ensures.subset ∙ (sym c.requires.same ∙ sym (length-points_of subset)) in
    let old = h.state a.handle.now in
    let new = h.state c.partial_decode_into_fresh.new.handle in
    let interval : Interval = record { offset = a.self.now.interval.offset + c.in-InRange.offset; size = c.in-InRange.size } in
    let refusals : Refusals = RequestRefusals sub_g requested m.answerable (ObjectRefusals old new (IntervalRefusals interval old.contents (λ b. m.read_refusals b requested.points))) in
    let refused = fitting_target m.serves (RefusesUnserved m) (size_of s.data_type.now) (length requested.points) target refusals c.in-Err.error kind counted c.in-Err.ensures.refused in
    let some : points_of subset ≢ [] = λ none. omega (arith, c.requires.some, length-points_of subset, ap length none) in
    rw (slot, numbers_of-points_of subset s.shape.now)
    (positions_refused (x.meaning s.codec.now sub_g).cells sub_g a.self.now.interval old.contents c.in-InRange.offset c.in-InRange.size requested fits inside
    m old new c.in-Err.error c.of_stored.result c.requires.serves c.requires.selection c.requires.inside (λ serves transparent axes within has. c.in-Err.ensures.lawful serves kind counted transparent axes within has) refused c.of_stored.ensures a.number some)
