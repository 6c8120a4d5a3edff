use Rattle.std.proofs.Common.{◌≡◌, ◌<◌, get_or, length, arith}
use borrow.Author.Count.{below_more}
use Rattle.parts_arrays.specs.Types.{size_of}
use Rattle.parts_arrays.specs.ArraySpec.{IsArrayOf}
use Rattle.storage_handles.specs.Writes.{bytes_of}
use Rattle.codec_traits.specs.RefusalLaws.{passed_on}
use Rattle.sharding_gather.proofs.ReadGroupLemmas.{read_then}
use Rattle.sharding_subchunks.specs.steps.Inner.{spec_of_subchunks, inner_meaning}
use Rattle.sharding_write.specs.Writing.{AreNewCells, cells_in}
use Rattle.sharding_write.specs.WriteRefusals.{HasOldCells}
use Rattle.sharding_write.proofs.ChangedLemmas.{arrays_counted, each_array, all_passed, passed_one, old_refused, new_cells_at}
use Rattle.sharding_write.proofs.writing.Writing.changed.Goals as goal

pub new_cells-requires-clause-touches : goal.new_cells-requires-clause-touches
new_cells-requires-clause-touches g c = c.requires.touched.touched c.loop-j.j (omega arith)

pub new_cells-requires-clause-below : goal.new_cells-requires-clause-below
new_cells-requires-clause-below g c = c.requires.below c.loop-j.j 0 (omega arith)

pub slot_in-slot-requires : goal.slot_in-slot-requires
slot_in-slot-requires g c =
    let below = c.requires.below c.loop-j.j 0 (omega arith) in
    omega (arith, below, c.requires.held.counted)

pub new_cells-requires-clause-there : goal.new_cells-requires-clause-there
new_cells-requires-clause-there g c = λ t.
    let inv = c.loop-j.invariant in
    rw (inv.read.contents_same, c.slot_in-slot.ensures.slot) (c.requires.held.there (rw inv.read.transparent_same at t) (get_or c.args.touched.now c.loop-j.j 0) (c.requires.below c.loop-j.j 0 (omega arith)))

pub loop-j-preserved : goal.loop-j-preserved
loop-j-preserved g c =
    let a = c.args in
    let s = a.self.now.subchunks in
    let sub_g = spec_of_subchunks s in
    let h = g.H.BytesPartialDecoderTraits in
    let inner = inner_meaning g.I.ArrayToBytesCodecTraits.meaning s in
    let contents = (h.state a.handle.now).contents in
    let bytes = bytes_of contents in
    let inv = c.loop-j.invariant in
    let found = c.in_ok-array.ensures in
    let k = get_or a.touched.now c.loop-j.j 0 in
    let slot = c.slot_in-slot.ensures.slot in
    let new = rw (inv.read.transparent_same, inv.read.contents_same) at found.new in
    let passed = rw (inv.read.transparent_same, inv.read.contents_same) at found.passed in
    record {
      read = read_then (h.state a.handle.now) (h.state c.loop-j.handle) (h.state c.new_cells.new.handle) inv.read found.read;
      counted = arrays_counted c.loop-j.arrays.items c.push.new.self.items c.in_ok-array.array c.loop-j.j inv.counted c.in_ok-push.ensures.items;
      arrays = each_array (λ i x. (x.kind ≡ size_of s.data_type.now) × IsArrayOf sub_g x.elements) c.loop-j.arrays.items c.push.new.self.items c.in_ok-array.array c.loop-j.j
          inv.counted inv.arrays c.in_ok-push.ensures.items (new.kind, new.array);
      cells = λ t. each_array (λ i x. AreNewCells a.self.now.shape.now sub_g a.update.now.subset.now a.update.now.elements.now.elements (cells_in inner.cells s.fill_value.now bytes a.cached.now.numbers.now (get_or a.touched.now i 0)) (get_or a.touched.now i 0) x.elements)
          c.loop-j.arrays.items c.push.new.self.items c.in_ok-array.array c.loop-j.j inv.counted (inv.cells t) c.in_ok-push.ensures.items
          (new_cells_at inner.cells s.fill_value.now bytes a.cached.now.numbers.now a.cached.now.len a.self.now.shape.now sub_g a.update.now.subset.now a.update.now.elements.now.elements c.slot_in-slot.result k c.in_ok-array.array.elements
          (c.requires.held.long t) slot (new.cells t));
      passed = λ t. below_more (λ i. HasOldCells inner a.self.now.shape.now s.shape.now a.update.now.subset.now bytes a.cached.now.numbers.now (get_or a.touched.now i 0)) c.loop-j.j (inv.passed t)
          (passed_one inner a.self.now.shape.now s.shape.now s.fill_value.now a.update.now.subset.now a.touched.now a.cached.now.numbers.now a.cached.now.len c.requires.touched bytes c.slot_in-slot.result k (c.requires.held.long t) slot (passed t));
    }

pub returns-in_err-array-clause-refused : goal.returns-in_err-array-clause-refused
returns-in_err-array-clause-refused g c =
    let a = c.args in
    let s = a.self.now.subchunks in
    let h = g.H.BytesPartialDecoderTraits in
    let inner = inner_meaning g.I.ArrayToBytesCodecTraits.meaning s in
    let inv = c.loop-j.invariant in
    let e = c.in_err-array.field-0.0 in
    let below : c.loop-j.j < length a.touched.now = omega arith in
    let inside = rw c.args.self.now.grid at (c.requires.below c.loop-j.j 0 below) in
    passed_on _ e _ c.from_residual-in_err-array.ensures.1
    (old_refused inner a.self.now.shape.now s.shape.now s.fill_value.now a.update.now.subset.now a.touched.now a.cached.now.numbers.now a.cached.now.len c.requires.touched
    (h.state a.handle.now) (h.state c.loop-j.handle) (h.state c.new_cells.new.handle) c.slot_in-slot.result c.loop-j.j e inv.read c.requires.held.long below inside c.slot_in-slot.ensures.slot inv.passed c.in_err-array.ensures.refused)

pub returns-clause-passed : goal.returns-clause-passed
returns-clause-passed g c = λ t k below.
    let a = c.args in
    let s = a.self.now.subchunks in
    let inner = inner_meaning g.I.ArrayToBytesCodecTraits.meaning s in
    let inv = c.loop-j.invariant in
    all_passed inner a.self.now.shape.now s.shape.now s.fill_value.now a.update.now.subset.now a.touched.now a.cached.now.numbers.now a.cached.now.len c.requires.touched
    (bytes_of (g.H.BytesPartialDecoderTraits.state a.handle.now).contents) (λ i lt. inv.passed t i (omega (arith, lt))) k

pub returns-clause-new : goal.returns-clause-new
returns-clause-new g c =
    let inv = c.loop-j.invariant in
    record {
      counted = omega (arith, inv.counted);
      each = λ j below.
          let lt : j < c.loop-j.j = omega (arith, below, inv.counted) in
          let each = inv.arrays j lt in
          record { kind = each.0; array = each.1; cells = λ t. inv.cells t j lt };
    }
