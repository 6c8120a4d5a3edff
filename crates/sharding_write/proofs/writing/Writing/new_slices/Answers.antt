use Rattle.std.proofs.Common.{[], inl, inr, arith}
use Rattle.storage_handles.specs.Writes.{bytes_of}
use Rattle.codec_traits.specs.RefusalLaws.{passed_on}
use Rattle.sharding_subchunks.specs.steps.Inner.{spec_of_subchunks, inner_meaning}
use Rattle.sharding_write.specs.Writing.{array_at, layout_from}
use Rattle.parts_errors.specs.Order.{done}
use Rattle.sharding_write.specs.WriteRefusals.{OldRefusals, NewRefusals}
use Rattle.sharding_write.proofs.PlainLemmas.{of_arrays, refused_since, only_faults}
use Rattle.sharding_write.proofs.RefusalLemmas.{old_first, new_refusals}
use Rattle.sharding_write.proofs.writing.Writing.new_slices.Goals as goal

pub changed-requires-clause-held : goal.changed-requires-clause-held
changed-requires-clause-held g c =
    let since = c.in_ok-stored_slices.ensures.read in
    record {
      counted = c.requires.held.counted;
      long = rw (since.transparent_same, since.contents_same) c.requires.held.long;
      there = rw (since.transparent_same, since.contents_same) c.requires.held.there;
    }

pub stored_in_row-requires-clause-arrays : goal.stored_in_row-requires-clause-arrays
stored_in_row-requires-clause-arrays g c = rw c.deref.ensures.value (λ j below.
    let new = c.in_ok-arrays.ensures.new.each j below in
    (new.kind, new.array))

pub returns-clause-stored_slices : goal.returns-clause-stored_slices
returns-clause-stored_slices g c =
    let a = c.args in
    let s = a.self.now.subchunks in
    let state = g.H.BytesPartialDecoderTraits.state a.handle.now in
    let since = c.in_ok-stored_slices.ensures.read in
    let news = rw (since.transparent_same, since.contents_same) at c.in_ok-arrays.ensures.new in
    let stored_slices = rw c.deref.ensures.value at c.in_ok-stored_slices-2.ensures.stored_slices in
    of_arrays (inner_meaning g.I.ArrayToBytesCodecTraits.meaning s) a.self.now.shape.now (spec_of_subchunks s) a.update.now.subset.now a.update.now.elements.now.elements state.transparent (bytes_of state.contents) a.cached.now.numbers.now a.touched.now
    c.in_ok-arrays.arrays.items c.in_ok-stored_slices-2.stored_slices.bytes.items c.in_ok-stored_slices-2.stored_slices.slots.items news.counted (λ j below. (news.each j below).array) (λ t j below. (news.each j below).cells t) stored_slices

pub returns-in_err-arrays-clause-refused : goal.returns-in_err-arrays-clause-refused
returns-in_err-arrays-clause-refused g c =
    let a = c.args in
    let s = a.self.now.subchunks in
    let h = g.H.BytesPartialDecoderTraits in
    let inner = inner_meaning g.I.ArrayToBytesCodecTraits.meaning s in
    let since = c.in_ok-stored_slices.ensures.read in
    let e = c.in_err-arrays.field-0.0 in
    let refused = rw since.contents_same at c.in_err-arrays.ensures.refused in
    passed_on _ e _ c.from_residual-in_err-arrays.ensures.1
    (old_first inner (layout_from a.self.now.shape.now (spec_of_subchunks s) a.self.now.index_codec.location a.self.now.plan.now.size) (spec_of_subchunks s) a.update.now.subset.now a.update.now.elements.now.elements
    (bytes_of (h.state a.handle.now).contents) a.cached.now.numbers.now a.touched.now (λ j. []) c.requires.touched (λ j lt. rw (← c.args.self.now.grid) (c.requires.below j 0 lt))
    (h.state a.handle.now) (h.state c.changed.new.handle) e
    (refused_since (h.state a.handle.now) (h.state c.plain_slices.new.handle) (h.state c.changed.new.handle)
    (OldRefusals inner a.self.now.shape.now s.shape.now s.fill_value.now a.update.now.subset.now (bytes_of (h.state a.handle.now).contents) a.cached.now.numbers.now done) e since refused))

pub returns-in_err-stored_slices-clause-refused : goal.returns-in_err-stored_slices-clause-refused
returns-in_err-stored_slices-clause-refused g c =
    let a = c.args in
    let s = a.self.now.subchunks in
    let h = g.H.BytesPartialDecoderTraits in
    let inner = inner_meaning g.I.ArrayToBytesCodecTraits.meaning s in
    let bytes = bytes_of (h.state a.handle.now).contents in
    let e = c.in_err-stored_slices.field-0.0 in
    passed_on _ e _ c.from_residual.ensures.1
    (only_faults (h.state a.handle.now) (h.state c.plain_slices.new.handle)
    (OldRefusals inner a.self.now.shape.now s.shape.now s.fill_value.now a.update.now.subset.now bytes a.cached.now.numbers.now
    (NewRefusals inner (layout_from a.self.now.shape.now (spec_of_subchunks s) a.self.now.index_codec.location a.self.now.plan.now.size) (spec_of_subchunks s) a.update.now.subset.now a.update.now.elements.now.elements bytes a.cached.now.numbers.now done)) e
    c.in_err-stored_slices.ensures.refused)

pub returns-in_err-stored_slices-2-clause-refused : goal.returns-in_err-stored_slices-2-clause-refused
returns-in_err-stored_slices-2-clause-refused g c =
    let a = c.args in
    let s = a.self.now.subchunks in
    let inner = inner_meaning g.I.ArrayToBytesCodecTraits.meaning s in
    let contents = (g.H.BytesPartialDecoderTraits.state a.handle.now).contents in
    let since = c.in_ok-stored_slices.ensures.read in
    let arrays = c.in_ok-arrays.arrays.items in
    let counted = c.in_ok-arrays.ensures.new.counted in
    let e = c.in_err-stored_slices-2.field-0.0 in
    let refused = rw (c.deref.ensures.value, counted) at c.in_err-stored_slices-2.ensures.refused in
    let news = rw (since.transparent_same, since.contents_same) at c.in_ok-arrays.ensures.new in
    let there = rw (since.transparent_same, since.contents_same, c.args.self.now.grid) at c.in_ok-arrays.ensures.passed in
    passed_on _ e _ c.from_residual-in_err-stored_slices-2.ensures.1 (elim refused [
      | inl memory ↦ inl memory
      | inr refusals ↦ inr (λ t.
          inr (new_refusals inner (layout_from a.self.now.shape.now (spec_of_subchunks s) a.self.now.index_codec.location a.self.now.plan.now.size) (spec_of_subchunks s) a.update.now.subset.now a.update.now.elements.now.elements
          (bytes_of contents) a.cached.now.numbers.now a.touched.now (λ j. (array_at arrays j).elements) c.requires.touched (λ j lt. rw (← c.args.self.now.grid) (c.requires.below j 0 lt))
          (there t) (λ j lt. (news.each j (omega (arith, lt, counted))).cells t) e refusals))
    ])
