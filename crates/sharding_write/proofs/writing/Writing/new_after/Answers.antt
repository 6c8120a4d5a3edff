use Rattle.std.proofs.Common.{◌≡◌, ◌∙◌, ap, drop, length, arith}
use Rattle.std.proofs.lemmas.List.{length-append}
use Rattle.storage_handles.specs.Writes.{bytes_of}
use Rattle.sharding_subchunks.specs.steps.Inner.{spec_of_subchunks, inner_meaning}
use Rattle.sharding_write.proofs.CellLemmas.{served_in_subset}
use Rattle.sharding_layout.proofs.StoringLemmas.{front_of, part_of, long_after}
use Rattle.sharding_write.proofs.PlainLemmas.{whole_bytes, is_new}
use Rattle.sharding_write.proofs.writing.Writing.new_after.Goals as goal

pub overlay_after-requires-clause-subset_served : goal.overlay_after-requires-clause-subset_served
overlay_after-requires-clause-subset_served g c =
    let a = c.args in
    let s = a.self.now in
    let overlap = c.in_ok-overlap.overlap in
    (served_in_subset s.shape.now (spec_of_subchunks s.subchunks) a.update.now.subset.now a.entry.number overlap.in_subchunk overlap.in_subset c.in_ok-overlap.ensures.meets c.args.update.now.well_formed c.requires.inside c.args.self.now.fits)

pub overlay_after-requires-clause-whole : goal.overlay_after-requires-clause-whole
overlay_after-requires-clause-whole g c =
    let a = c.args in
    let put = c.in_ok-there.ensures.appended c.if-there.true in
    let from : length a.slices.now.items ≡ c.len-from.result = omega (arith, c.len-from.ensures, a.slices.now.ok.0) in
    rw (part_of c.len-from.result a.slices.now.items put.part c.before_after.new.slices.items from put.appended, c.as_slice.ensures.value, c.as_ne_bytes-len.ensures)
    (put.long ∙ c.requires.plain.size_is)

pub slot_after-new-requires-clause-from : goal.slot_after-new-requires-clause-from
slot_after-new-requires-clause-from g c =
    let a = c.args in
    let put = c.in_ok-there.ensures.appended c.if-there.true in
    omega (arith, c.len-from.ensures, a.slices.now.ok.0, c.overlay_after.ensures.long, ap length put.appended, length-append a.slices.now.items put.part)

pub slot_after-new-requires-clause-whole : goal.slot_after-new-requires-clause-whole
slot_after-new-requires-clause-whole g c =
    let a = c.args in
    let s = a.self.now.subchunks in
    let put = c.in_ok-there.ensures.appended c.if-there.true in
    let from : length a.slices.now.items ≡ c.len-from.result = omega (arith, c.len-from.ensures, a.slices.now.ok.0) in
    let over = c.overlay_after.new.slices.items in
    whole_bytes (spec_of_subchunks s) (inner_meaning g.I.ArrayToBytesCodecTraits.meaning s) a.size c.requires.plain (drop c.len-from.result over)
    (long_after c.len-from.result a.size a.slices.now.items put.part c.before_after.new.slices.items over from put.appended put.long c.overlay_after.ensures.long)

pub returns-then-there-clause-stored_slices : goal.returns-then-there-clause-stored_slices
returns-then-there-clause-stored_slices g c =
    let a = c.args in
    let s = a.self.now.subchunks in
    let state = g.H.BytesPartialDecoderTraits.state a.handle.now in
    let overlap = c.in_ok-overlap.overlap in
    let put = c.in_ok-there.ensures.appended c.if-there.true in
    let from : length a.slices.now.items ≡ c.len-from.result = omega (arith, c.len-from.ensures, a.slices.now.ok.0) in
    let mid = c.before_after.new.slices.items in
    let over = c.overlay_after.new.slices.items in
    let front = front_of c.len-from.result a.slices.now.items put.part mid from put.appended in
    let part = part_of c.len-from.result a.slices.now.items put.part mid from put.appended in
    let overlaid = rw (c.as_ne_bytes-len.ensures, c.as_slice.ensures.value, part) at c.overlay_after.ensures.overlaid in
    let stored = rw (c.overlay_after.ensures.kept, front) at c.slot_after-new.ensures.stored in
    is_new (spec_of_subchunks s) (inner_meaning g.I.ArrayToBytesCodecTraits.meaning s) a.size c.requires.plain a.self.now.shape.now a.update.now.subset.now a.entry.number overlap.in_subchunk overlap.in_subset c.in_ok-overlap.ensures.meets c.requires.touches
    a.update.now.elements.now c.args.update.now.counted (rw c.requires.kind at c.args.update.now.fitting) put.part (drop c.len-from.result over) put.long overlaid (bytes_of state.contents) a.entry.slot state.transparent c.is_whole-whole.result c.is_whole-whole.ensures.whole.0 put.holds
    a.slices.now.items c.slot_after-new.new.slices.items c.slot_after-new.result stored
