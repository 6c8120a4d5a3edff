-- The cells so far have been read and written.
use Rattle.std.proofs.Common.{◌≡◌, ◌*◌, ◌-◌, ◌<◌, ◌≤◌, ℕ, IsTrue, length}
use Rattle.storage_handles.specs.Handles.{IsRead}
use Rattle.storage_handles.specs.Objects.{interval_part}
use Rattle.sharding_gather.specs.steps.Sorting.{requested_at}
use Rattle.sharding_gather.proofs.SortedReads.{IsReadSorted}
use Rattle.sharding_subchunks.specs.steps.Inner.{inner_meaning}
use Rattle.sharding_subchunks.proofs.stored_shard.StoredShard.sorted_bytes.Given as goal

abbrev pub invariant-loop-done : goal.invariant-loop-done
invariant-loop-done g l = let h = g.H.BytesPartialDecoderTraits in let s = l.self.subchunks in let inner = inner_meaning g.I.ArrayToBytesCodecTraits.meaning s in record {
  most : l.done ≤ length l.requested;
  read : IsRead (h.state l.fn.handle) (h.state l.handle);
  whole : length l.bytes.items ≡ length l.numbers * length s.fill_value.now;
  lower : (i : ℕ) → i < l.done → l.done < length l.requested → (requested_at l.requested i).subchunk < (requested_at l.requested l.done).subchunk;
  so_far : IsTrue (h.state l.fn.handle).transparent
      → IsReadSorted inner.cells l.self.shape.now s.shape.now s.fill_value.now (interval_part l.self.interval (h.state l.fn.handle).contents) l.self.index.now.numbers.items l.numbers l.requested l.self.interval.size l.done l.bytes.items;
}

abbrev pub decreases-loop-done : goal.decreases-loop-done
decreases-loop-done g l = length l.requested - l.done
