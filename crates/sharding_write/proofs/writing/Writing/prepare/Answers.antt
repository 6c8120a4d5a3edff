use Rattle.std.proofs.Common.{◌≡◌, ◌∙◌, ℕ, List, [], Some, inl, inr, ap, length, get_or, replicate, arith}
use Rattle.std.proofs.lemmas.List.{length-replicate}
use Rattle.parts_row_major.specs.Numbering.{count_of}
use Rattle.parts_arrays.specs.ArraySpec.{array_spec}
use Rattle.sharding_format.specs.Index.{index_spec}
use Rattle.sharding_write.proofs.CachedLemmas.{held_settled, told_settled, told_len, told_slice}
use Rattle.sharding_subchunks.specs.steps.Inner.{spec_of_subchunks, inner_meaning}
use Rattle.storage_handles.specs.Writes.{bytes_of}
use Rattle.codec_traits.specs.RefusalLaws.{passed_on}
use Rattle.sharding_write.specs.Writing.{layout_from}
use Rattle.sharding_index.specs.Indexes.{index_meaning}
use Rattle.sharding_write.proofs.MadeLemmas.{made_is_write}
use Rattle.sharding_write.proofs.PutLemmas.{stored_inside}
use Rattle.sharding_write.proofs.RefusalLemmas.{cells_first, last_refusals}
use Rattle.sharding_write.proofs.writing.Writing.prepare.Goals as goal

pub new_slices-requires-clause-held : goal.new_slices-requires-clause-held
new_slices-requires-clause-held g c = record {
  counted = c.requires.held.cached.counted;
  long = λ t. told_len _ _ _ _ (c.requires.held.told t);
  there = λ t k below. told_slice _ _ _ _ _ _ _ c.requires.held.cached (c.requires.held.told t) k below;
}

pub settle-requires-clause-same : goal.settle-requires-clause-same
settle-requires-clause-same g c =
    rw c.deref-2.ensures.value
    (c.in_ok-stored_slices.ensures.stored_slices.stored_slices.counted ∙ ap length c.deref.ensures.value)

pub settle-requires-clause-below : goal.settle-requires-clause-below
settle-requires-clause-below g c = rw c.deref-2.ensures.value (λ j d lt.
    let below = rw (← c.args.self.now.grid) at (c.in_ok-touched.ensures.below j d lt) in
    omega (arith, below, c.requires.held.cached.counted))

pub settle-requires-clause-rising : goal.settle-requires-clause-rising
settle-requires-clause-rising g c = rw c.deref-2.ensures.value c.in_ok-touched.ensures.touched.rising

pub settle-requires-clause-room : goal.settle-requires-clause-room
settle-requires-clause-room g c = λ i lt.
    let s = c.args.self.now.subchunks in
    let news = c.in_ok-stored_slices.ensures.stored_slices in
    stored_inside (inner_meaning g.I.ArrayToBytesCodecTraits.meaning s).written s.fill_value.now (get_or news.news i []) _ _ (news.stored_slices.stored_slices i (omega (arith, lt, news.stored_slices.counted)))

pub returns-clause-made : goal.returns-clause-made
returns-clause-made g c = λ t.
    let a = c.args in
    let s = a.self.now.subchunks in
    let contents = (g.H.BytesPartialDecoderTraits.state a.handle.now).contents in
    let news = rw c.deref.ensures.value at c.in_ok-stored_slices.ensures.stored_slices in
    let touched = c.in_ok-touched.touched.items in
    let settled = rw c.deref-2.ensures.value at (c.in_ok-prepared.ensures.settled contents (told_len _ _ _ _ (c.requires.held.told t))) in
    record {
      touched = touched;
      are_touched = c.in_ok-touched.ensures.touched;
      below = c.in_ok-touched.ensures.below;
      elements = λ j. get_or news.news j [];
      cells = news.cells t;
      slots = c.in_ok-stored_slices.stored_slices.slots.items;
      slices = c.in_ok-stored_slices.stored_slices.bytes.items;
      stored_slices = news.stored_slices;
      settled = settled;
    }

pub returns-clause-written : goal.returns-clause-written
returns-clause-written g c = λ t.
    let a = c.args in
    let s = a.self.now.subchunks in
    let inner = inner_meaning g.I.ArrayToBytesCodecTraits.meaning s in
    let index = index_meaning g.X.ArrayToBytesCodecTraits.meaning a.self.now.index_codec.codec.now a.self.now.plan.now.grid in
    let contents = (g.H.BytesPartialDecoderTraits.state a.handle.now).contents in
    let len = told_len _ _ _ _ (c.requires.held.told t) in
    let counted = rw c.args.self.now.grid at c.requires.held.cached.counted in
    let lies = rw (← len, c.args.self.now.grid) at c.requires.held.cached.placed in
    let enough = rw (← len) at c.requires.held.cached.long_enough in
    made_is_write inner index a.self.now.shape.now (spec_of_subchunks s) a.self.now.index_codec.location a.self.now.plan.now.size a.update.now.subset.now a.update.now.elements.now.elements a.cached.now.numbers.now contents
    c.in_ok-prepared.prepared.numbers.items c.in_ok-prepared.prepared.len counted lies enough _ (returns-clause-made g c t)

pub returns-clause-held : goal.returns-clause-held
returns-clause-held g c =
    let a = c.args in
    let s = a.self.now.subchunks in
    let plan = a.self.now.plan.now in
    let codec = a.self.now.index_codec.codec.now in
    let inner = inner_meaning g.I.ArrayToBytesCodecTraits.meaning s in
    let index = index_meaning g.X.ArrayToBytesCodecTraits.meaning codec plan.grid in
    let contents = (g.H.BytesPartialDecoderTraits.state a.handle.now).contents in
    let held = c.requires.held in
    let blank : List ℕ = replicate a.cached.now.len 0 in
    let long : length blank ≡ a.cached.now.len = length-replicate a.cached.now.len 0 in
    let news = rw c.deref.ensures.value at c.in_ok-stored_slices.ensures.stored_slices in
    let touched = c.in_ok-touched.touched.items in
    let settled = rw c.deref-2.ensures.value at c.in_ok-prepared.ensures.settled in
    let law = g.met.X.ArrayToBytesCodecTraits.lawful codec (index_spec plan.grid) in
    record {
      cached = held_settled inner.written s.fill_value.now a.self.now.index_codec.location plan.size touched c.in_ok-stored_slices.stored_slices.slots.items c.in_ok-stored_slices.stored_slices.bytes.items
          (λ j. get_or news.news j []) news.stored_slices (count_of plan.grid) a.cached.now.numbers.now held.cached.counted index.written (Some blank) c.in_ok-prepared.prepared.numbers.items
          c.in_ok-prepared.prepared.len (rw long held.cached.placed) (rw long held.cached.long_enough) _ (settled (Some blank) long);
      told = λ t.
          let len = told_len _ _ _ _ (held.told t) in
          told_settled index.cells index.written s.shape.now (array_spec a.self.now.shape.now s.data_type.now s.fill_value.now) a.self.now.index_codec.location plan.size
          (rw (← a.self.now.grid) (λ e bytes array written. law.written_cells e bytes c.requires.plan.serves.served array written))
          touched c.in_ok-stored_slices.stored_slices.slots.items c.in_ok-stored_slices.stored_slices.bytes.items a.cached.now.numbers.now (rw (← a.self.now.grid) held.cached.counted) contents c.in_ok-prepared.prepared.numbers.items
          c.in_ok-prepared.prepared.len (rw len held.cached.long_enough) _ (settled contents len);
    }

pub returns-in_err-stored_slices-clause-refused : goal.returns-in_err-stored_slices-clause-refused
returns-in_err-stored_slices-clause-refused g c =
    let a = c.args in
    let s = a.self.now.subchunks in
    let inner = inner_meaning g.I.ArrayToBytesCodecTraits.meaning s in
    let index = index_meaning g.X.ArrayToBytesCodecTraits.meaning a.self.now.index_codec.codec.now a.self.now.plan.now.grid in
    let h = g.H.BytesPartialDecoderTraits in
    let e = c.in_err-stored_slices.field-0.0 in
    passed_on _ e _ c.from_residual-in_err-stored_slices.ensures.1
    (cells_first inner (layout_from a.self.now.shape.now (spec_of_subchunks s) a.self.now.index_codec.location a.self.now.plan.now.size) (spec_of_subchunks s) a.update.now.subset.now a.update.now.elements.now.elements
    (bytes_of (h.state a.handle.now).contents) a.cached.now.numbers.now c.in_ok-touched.touched.items (λ j. []) c.in_ok-touched.ensures.touched (λ j lt. c.in_ok-touched.ensures.below j 0 lt)
    index (h.state a.handle.now) (h.state c.new_slices.new.handle) e c.in_err-stored_slices.ensures.refused)

pub returns-in_err-prepared-clause-refused : goal.returns-in_err-prepared-clause-refused
returns-in_err-prepared-clause-refused g c =
    let a = c.args in
    let s = a.self.now.subchunks in
    let inner = inner_meaning g.I.ArrayToBytesCodecTraits.meaning s in
    let index = index_meaning g.X.ArrayToBytesCodecTraits.meaning a.self.now.index_codec.codec.now a.self.now.plan.now.grid in
    let contents = (g.H.BytesPartialDecoderTraits.state a.handle.now).contents in
    let news = rw c.deref.ensures.value at c.in_ok-stored_slices.ensures.stored_slices in
    let touched = c.in_ok-touched.touched.items in
    let refused = rw c.deref-2.ensures.value at c.in_err-prepared.ensures.refused in
    passed_on _ c.in_err-prepared.field-0.0 _ c.from_residual-in_err-prepared.ensures.1 (elim refused [
      | inl memory ↦ inl memory
      | inr refusals ↦ inr (λ t.
          let passed = rw c.args.self.now.grid at (c.in_ok-stored_slices.ensures.passed t) in
          let numbers_counted = rw c.args.self.now.grid at c.requires.held.cached.counted in
          inr (last_refusals inner (layout_from a.self.now.shape.now (spec_of_subchunks s) a.self.now.index_codec.location a.self.now.plan.now.size) (spec_of_subchunks s) a.update.now.subset.now a.update.now.elements.now.elements
          (bytes_of contents) a.cached.now.numbers.now touched (λ j. get_or news.news j []) c.in_ok-touched.ensures.touched (λ j lt. c.in_ok-touched.ensures.below j 0 lt)
          passed (news.cells t) c.in_ok-stored_slices.stored_slices.slots.items c.in_ok-stored_slices.stored_slices.bytes.items news.stored_slices numbers_counted index c.in_err-prepared.field-0.0
          (rw (told_len _ _ _ _ (c.requires.held.told t), ← c.args.self.now.grid) refusals)))
    ])
