-- The subchunks so far.
use Rattle.std.proofs.Common.{◌≡◌, ◌<◌, ℕ, IsTrue, length, get_or}
use Rattle.parts_arrays.specs.Types.{size_of}
use Rattle.parts_arrays.specs.ArraySpec.{IsArrayOf}
use Rattle.storage_handles.specs.Handles.{IsRead}
use Rattle.storage_handles.specs.Writes.{bytes_of}
use Rattle.sharding_subchunks.specs.steps.Inner.{spec_of_subchunks}
use Rattle.sharding_write.specs.Writing.{AreNewCells, cells_in, array_at}
use Rattle.sharding_write.specs.WriteRefusals.{HasOldCells}
use Rattle.sharding_write.proofs.writing.Writing.changed.Given as goal

abbrev pub invariant-loop-j : goal.invariant-loop-j
invariant-loop-j g l =
    let h = g.H.BytesPartialDecoderTraits in let s = l.self.subchunks in let sub_g = spec_of_subchunks s in
    let inner = g.I.ArrayToBytesCodecTraits.meaning s.codec.now sub_g in let bytes = bytes_of (h.state l.fn.handle).contents in record {
      read : IsRead (h.state l.fn.handle) (h.state l.handle);
      counted : length l.arrays.items ≡ l.j;
      arrays : (i : ℕ) → i < l.j → ((array_at l.arrays.items i).kind ≡ size_of s.data_type.now) × IsArrayOf sub_g (array_at l.arrays.items i).elements;
      cells : IsTrue (h.state l.fn.handle).transparent → (i : ℕ) → i < l.j
          → AreNewCells l.self.shape.now sub_g l.update.subset.now l.update.elements.now.elements (cells_in inner.cells s.fill_value.now bytes l.cached.numbers.now (get_or l.touched i 0)) (get_or l.touched i 0) (array_at l.arrays.items i).elements;
      passed : IsTrue (h.state l.fn.handle).transparent → (i : ℕ) → i < l.j → HasOldCells inner l.self.shape.now s.shape.now l.update.subset.now bytes l.cached.numbers.now (get_or l.touched i 0);
    }
