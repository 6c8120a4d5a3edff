-- The subchunks so far.
use Rattle.std.proofs.Common.{ℕ, ◌<◌, IsTrue, get_or}
use Rattle.storage_handles.specs.Handles.{IsRead}
use Rattle.storage_handles.specs.Writes.{bytes_of}
use Rattle.sharding_subchunks.specs.steps.Inner.{spec_of_subchunks}
use Rattle.sharding_write.specs.WriteRefusals.{HasOldCells}
use Rattle.sharding_write.specs.Slices.{AreNewSlices}
use Rattle.sharding_write.proofs.writing.Writing.plain_slices.Given as goal

abbrev pub invariant-loop-j : goal.invariant-loop-j
invariant-loop-j g l =
    let h = g.H.BytesPartialDecoderTraits in let s = l.self.subchunks in let sub_g = spec_of_subchunks s in
    let inner = g.I.ArrayToBytesCodecTraits.meaning s.codec.now sub_g in let state = h.state l.fn.handle in record {
      read : IsRead state (h.state l.handle);
      stored_slices : AreNewSlices inner l.self.shape.now sub_g l.update.subset.now l.update.elements.now.elements state.transparent (bytes_of state.contents) l.cached.numbers.now l.touched l.bytes.items l.slots.items l.j;
      passed : IsTrue state.transparent → (i : ℕ) → i < l.j → HasOldCells inner l.self.shape.now s.shape.now l.update.subset.now (bytes_of state.contents) l.cached.numbers.now (get_or l.touched i 0);
    }
