-- The touched subchunks so far have been read.
use Rattle.std.proofs.Common.{◌≡◌, ◌*◌, IsTrue, length}
use Rattle.storage_handles.specs.Handles.{IsRead}
use Rattle.storage_handles.specs.Objects.{interval_part}
use Rattle.sharding_gather.proofs.SubsetReadLemmas.{IsReadTo}
use Rattle.sharding_subchunks.specs.steps.Inner.{inner_meaning}
use Rattle.sharding_subchunks.proofs.stored_shard.StoredShard.subset_bytes.Given as goal

abbrev pub invariant-loop-j : goal.invariant-loop-j
invariant-loop-j g l = let h = g.H.BytesPartialDecoderTraits in let s = l.self.subchunks in let inner = inner_meaning g.I.ArrayToBytesCodecTraits.meaning s in record {
  read : IsRead (h.state l.fn.handle) (h.state l.handle);
  whole : length l.bytes.items ≡ l.count * length s.fill_value.now;
  so_far : IsTrue (h.state l.fn.handle).transparent
      → IsReadTo inner.cells l.self.shape.now s.shape.now s.fill_value.now (interval_part l.self.interval (h.state l.fn.handle).contents) l.self.index.now.numbers.items l.subset l.touched.items l.self.interval.size l.j l.bytes.items;
}
