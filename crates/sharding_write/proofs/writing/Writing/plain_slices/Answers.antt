use Rattle.std.proofs.Common.{get_or, refl, arith}
use borrow.Author.Count.{below_more}
use Rattle.storage_handles.specs.Writes.{bytes_of}
use Rattle.sharding_gather.proofs.ReadGroupLemmas.{read_then}
use Rattle.sharding_subchunks.specs.steps.Inner.{spec_of_subchunks, inner_meaning}
use Rattle.sharding_write.specs.WriteRefusals.{HasOldCells}
use Rattle.sharding_write.proofs.ChangedLemmas.{all_passed, passed_one}
use Rattle.sharding_write.proofs.PlainLemmas.{none_new, new_more}
use Rattle.sharding_write.proofs.writing.Writing.plain_slices.Goals as goal

pub new_after-requires-clause-there : goal.new_after-requires-clause-there
new_after-requires-clause-there g c = λ t.
    let inv = c.loop-j.invariant in
    rw (inv.read.contents_same, c.slot_in-slot.ensures.slot) (c.requires.held.there (rw inv.read.transparent_same at t) (get_or c.args.touched.now c.loop-j.j 0) (c.requires.below c.loop-j.j 0 (omega arith)))

pub slot_in-slot-requires : goal.slot_in-slot-requires
slot_in-slot-requires g c =
    let below = c.requires.below c.loop-j.j 0 (omega arith) in
    omega (arith, below, c.requires.held.counted)

pub new_after-requires-clause-touches : goal.new_after-requires-clause-touches
new_after-requires-clause-touches g c = c.requires.touched.touched c.loop-j.j (omega arith)

pub new_after-requires-clause-below : goal.new_after-requires-clause-below
new_after-requires-clause-below g c = c.requires.below c.loop-j.j 0 (omega arith)

pub loop-j-init : goal.loop-j-init
loop-j-init g c =
    let a = c.args in
    let s = a.self.now.subchunks in
    let state = g.H.BytesPartialDecoderTraits.state a.handle.now in
    record {
      read = record { transparent_same = refl; contents_same = refl; faults_kept = omega arith; supports_same = refl };
      stored_slices = rw (c.in_ok-bytes.ensures.items, c.in_ok-slots.ensures.items)
          (none_new (inner_meaning g.I.ArrayToBytesCodecTraits.meaning s) a.self.now.shape.now (spec_of_subchunks s) a.update.now.subset.now a.update.now.elements.now.elements state.transparent (bytes_of state.contents) a.cached.now.numbers.now a.touched.now);
      passed = λ t i lt. absurd (omega (arith, lt));
    }

pub loop-j-preserved : goal.loop-j-preserved
loop-j-preserved g c =
    let a = c.args in
    let s = a.self.now.subchunks in
    let h = g.H.BytesPartialDecoderTraits in
    let inner = inner_meaning g.I.ArrayToBytesCodecTraits.meaning s in
    let state = h.state a.handle.now in
    let bytes = bytes_of state.contents in
    let inv = c.loop-j.invariant in
    let k = get_or a.touched.now c.loop-j.j 0 in
    let slot = c.slot_in-slot.ensures.slot in
    let new = rw (c.in-Some-2.is, inv.read.transparent_same, inv.read.contents_same) at c.in_ok-new.ensures.stored_slices in
    record {
      read = read_then state (h.state c.loop-j.handle) (h.state c.new_after.new.handle) inv.read c.in_ok-new.ensures.read;
      stored_slices = new_more inner a.self.now.shape.now (spec_of_subchunks s) a.update.now.subset.now a.update.now.elements.now.elements state.transparent bytes a.cached.now.numbers.now a.touched.now a.cached.now.len c.loop-j.j c.loop-j.bytes.items c.new_after.new.slices.items
          c.loop-j.slots.items c.push.new.self.items c.slot_in-slot.result c.in-Some-2.new inv.stored_slices c.requires.held.long slot new c.in_ok-push.ensures.items;
      passed = λ t. below_more (λ i. HasOldCells inner a.self.now.shape.now s.shape.now a.update.now.subset.now bytes a.cached.now.numbers.now (get_or a.touched.now i 0)) c.loop-j.j (inv.passed t)
          (passed_one inner a.self.now.shape.now s.shape.now s.fill_value.now a.update.now.subset.now a.touched.now a.cached.now.numbers.now a.cached.now.len c.requires.touched bytes c.slot_in-slot.result k (c.requires.held.long t) slot (new.passed t));
    }

pub returns-clause-passed : goal.returns-clause-passed
returns-clause-passed g c = λ t k below.
    let a = c.args in
    let s = a.self.now.subchunks in
    let inner = inner_meaning g.I.ArrayToBytesCodecTraits.meaning s in
    let inv = c.loop-j.invariant in
    all_passed inner a.self.now.shape.now s.shape.now s.fill_value.now a.update.now.subset.now a.touched.now a.cached.now.numbers.now a.cached.now.len c.requires.touched
    (bytes_of (g.H.BytesPartialDecoderTraits.state a.handle.now).contents) (λ i lt. inv.passed t i (omega (arith, lt))) k
