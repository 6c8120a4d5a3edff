-- The touched subchunks so far have been put.
use Rattle.std.proofs.Common.{IsTrue}
use Rattle.storage_handles.specs.Handles.{IsRead}
use Rattle.storage_handles.specs.Objects.{interval_part}
use Rattle.sharding_subchunks.specs.steps.Inner.{inner_meaning}
use Rattle.sharding_subchunks.proofs.SubsetPutLemmas.{IsSubsetPut}
use Rattle.sharding_subchunks.proofs.stored_shard.StoredShard.put_touched.Given as goal

abbrev pub invariant-loop-j : goal.invariant-loop-j
invariant-loop-j g l = let h = g.H.BytesPartialDecoderTraits in let s = l.self.subchunks in let inner = inner_meaning g.I.ArrayToBytesCodecTraits.meaning s in record {
  read : IsRead (h.state l.fn.handle) (h.state l.handle);
  so_far : IsSubsetPut (IsTrue (h.state l.fn.handle).transparent) inner.cells l.self.shape.now s.shape.now s.fill_value.now (interval_part l.self.interval (h.state l.fn.handle).contents)
      l.self.index.now.numbers.items l.self.interval.size l.met.subset.now l.touched l.j l.fn.target l.target;
}
