-- Encoded subchunks one behind the other, with the index that the lay-out says.
use Rattle.std.proofs.Common.{◌≡◌, ℕ, ◌+◌, ◌<◌, ◌≤◌, List, length, map, sym, ap, ◌∙◌, subst, arith}
use Rattle.parts_errors.specs.Words.{Bytes, Elements}
use Rattle.parts_row_major.specs.Numbering.{count_of}
use Rattle.parts_subsets.specs.Grid.{grid_of, subchunk}
use Rattle.codec_traits.specs.Meanings.{Meaning}
use Rattle.sharding_format.specs.Index.{data_start, element_of_number}
use Rattle.sharding_format.specs.Cells.{Layout}
use Rattle.sharding_format.specs.Encoding.{slot_size, IsStoredAt, IsEncodingBy}
use Rattle.sharding_format.specs.Compacting.{present_size}
use Rattle.sharding_format.specs.Packing.{moved_slot}
use Rattle.sharding_format.specs.Laying.{whole_shard}
use Rattle.sharding_format.specs.declared.location.ShardingIndexLocation.{ShardingIndexLocation}
use Rattle.sharding_format.specs.declared.order.SubchunkWriteOrder.TheVariants.{C}
use Rattle.sharding_format.specs.declared.slot.Slot.{Slot}
use Rattle.sharding_format.specs.declared.slot.Slot.TheVariants.{Absent, InRange, Bad}
use Rattle.sharding_format.proofs.EncodingLemmas.{Whole, whole_of}
use Rattle.sharding_plans.specs.declared.packed.PackedShard.{PackedShard}
use Rattle.sharding_plans.specs.PackedShards.{IsPackedShard, IsWrittenAs, EncodeLaw, place_of, slot_among, slots_of_sizes}
use Rattle.sharding_plans.proofs.PackLemmas.{ends_among, laid_out}

-- what stands among the encodings stands in the object, behind what is before them
stored_among : (inner : Meaning) (fill : Bytes) (location : ShardingIndexLocation) (size : ℕ) (index encodings object : Bytes)
    → Whole location size index encodings object → (s : Slot) (before : ℕ) (e : Elements) → before + slot_size s ≤ length encodings
    → IsStoredAt inner.written fill (λ offset size. Unit {0}) e encodings (moved_slot s before)
    → IsStoredAt inner.written fill (λ offset size. Unit {0}) e object (moved_slot s (data_start location size + before))
stored_among inner fill location size index encodings object whole Absent before e fits h = h
stored_among inner fill location size index encodings object whole (InRange offset long) before e fits h =
    (h.0, subst (inner.written e) (sym (whole.slice before long fits)) h.1, h.2)
stored_among inner fill location size index encodings object whole Bad before e fits h = absurd h

module _ (inner index : Meaning) (l : Layout) (array : Elements) (sizes encodings index_bytes : List ℕ) (shard : PackedShard) (in_order_c : l.order ≡ C)
    (is : IsPackedShard (place_of l) (count_of (grid_of l.shape l.sub)) (slots_of_sizes sizes) shard)
    (filled : length encodings ≡ present_size (slots_of_sizes sizes) (count_of (grid_of l.shape l.sub)))
    (long : length index_bytes ≡ l.index_size) (index_is : index.written (map element_of_number shard.numbers.items) index_bytes)
    (stored : (k : ℕ) → k < count_of (grid_of l.shape l.sub)
    → IsStoredAt inner.written l.fill (λ offset size. Unit {0}) (subchunk l.shape l.sub array k) encodings (slot_among sizes k)) where
  abbrev n : ℕ
  n = count_of (grid_of l.shape l.sub)

  abbrev slots : ℕ → Slot
  slots = slots_of_sizes sizes

  abbrev object : Bytes
  object = whole_shard l.location index_bytes encodings

  whole : Whole l.location l.index_size index_bytes encodings object
  whole = whole_of l.location l.index_size index_bytes encodings long

  written : IsWrittenAs index.written l shard object
  written = record {
    long = whole.len ∙ (ap (λ m. l.index_size + m) filled ∙ sym is.long);
    index = rw whole.index_is index_is;
  }

  stands : (k : ℕ) → k < n → IsStoredAt inner.written l.fill (λ offset size. Unit {0}) (subchunk l.shape l.sub array k) object (moved_slot (slots k) (data_start l.location l.index_size + present_size slots k))
  stands k below = stored_among inner l.fill l.location l.index_size index_bytes encodings object whole (slots k) (present_size slots k) (subchunk l.shape l.sub array k) (omega (arith, filled, ends_among slots k n below)) (stored k below)

  pub encoded_whole : IsEncodingBy inner.written index.written l array object shard.numbers.items
  encoded_whole = laid_out inner index l array sizes object shard in_order_c is written (λ k below. rw (is.stand k below) (stands k below))

pub the_encode_law : (inner index : Meaning) → EncodeLaw inner index
the_encode_law inner index = record {
  encoded = λ l array sizes encodings index_bytes shard c is filled long written stored. encoded_whole inner index l array sizes encodings index_bytes shard c is filled long written stored;
}
