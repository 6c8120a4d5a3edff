-- The groups so far have been read.
use Rattle.std.proofs.Common.{◌≡◌, ◌<◌, ℕ, IsTrue, [], None, length, get_or}
use Rattle.sharding_subchunks.specs.steps.Inner.{spec_of_subchunks}
use Rattle.parts_arrays.specs.Types.{size_of}
use Rattle.storage_handles.specs.Handles.{IsRead}
use Rattle.storage_handles.specs.Objects.{interval_part}
use Rattle.sharding_format.specs.Index.{slot_at}
use Rattle.sharding_gather.specs.steps.Grouping.{lists_of}
use Rattle.sharding_format.specs.steps.Decoding.{IsPartOf}
use Rattle.sharding_format.specs.steps.Reading.{IsReadAt}
use Rattle.sharding_subchunks.proofs.stored_shard.StoredShard.read_groups.Given as goal

abbrev pub invariant-loop-j : goal.invariant-loop-j
invariant-loop-j g l = let h = g.H.BytesPartialDecoderTraits in let sub_g = spec_of_subchunks l.self.subchunks in record {
  read : IsRead (h.state l.fn.handle) (h.state l.handle);
  counted : length l.parts.items ≡ l.j;
  parts : (i : ℕ) → i < l.j → IsPartOf (size_of l.self.subchunks.data_type.now) (length (get_or (lists_of l.groups) i [])) (get_or l.parts.items i None);
  cells : IsTrue (h.state l.fn.handle).transparent → (i : ℕ) → i < l.j
      → IsReadAt (g.I.ArrayToBytesCodecTraits.meaning l.self.subchunks.codec.now sub_g).cells (interval_part l.self.interval (h.state l.fn.handle).contents) (slot_at l.self.interval.size l.self.index.now.numbers.items (get_or l.groups.subchunks.items i 0))
      (get_or (lists_of l.groups) i []) (get_or l.parts.items i None);
}
