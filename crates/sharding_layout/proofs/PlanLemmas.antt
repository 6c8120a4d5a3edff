-- A plan that looks at the index alone makes a compaction of each object that has this index.
use Rattle.std.proofs.Common.{◌≡◌, ◌≢◌, ℕ, ◌+◌, ◌*◌, ◌/◌, ◌^◌, ◌<◌, ◌≤◌, List, Some, length, refl, sym, ap, ◌∙◌, subst, arith}
use Rattle.std.proofs.lemmas.Bool.{le-leb}
use Rattle.parts_row_major.specs.Numbering.{count_of}
use Rattle.parts_subsets.specs.Grid.{grid_of}
use Rattle.parts_errors.specs.Words.{CellsOf}
use Rattle.codec_traits.specs.Meanings.{Meaning}
use Rattle.sharding_format.specs.Cells.{Layout}
use Rattle.sharding_format.specs.Index.{slot_at, index_part, data_start, numbers_in_index}
use Rattle.sharding_format.specs.Laying.{IsIndexOf, whole_shard}
use Rattle.sharding_format.specs.Packing.{IsPacked}
use Rattle.sharding_format.specs.Compacting.{IsGood, IsCompact, IsCompacted, present_size, compact_size}
use Rattle.sharding_format.specs.declared.location.ShardingIndexLocation.{ShardingIndexLocation}
use Rattle.sharding_format.proofs.RefusalLemmas.{long_enough}
use Rattle.sharding_format.proofs.EncodingLemmas.{whole_of}
use Rattle.sharding_format.proofs.PackingLemmas.{rewritten_shard, size_present, compact_shard, compacted_shard}
use Rattle.sharding_layout.specs.Repacking.{slots_of, slices_of, packed_slots}
use Rattle.sharding_layout.proofs.RepackingLemmas.{are_slots, taken_present, packed_slices}

-- an object with the same index has its numbers
pub numbers_there : (cells : CellsOf) (location : ShardingIndexLocation) (size : ℕ) (bytes object numbers : List ℕ) → size ≤ length object
    → index_part location size object ≡ index_part location size bytes → numbers_in_index cells location size bytes ≡ Some numbers
    → numbers_in_index cells location size object ≡ Some numbers
unfolding numbers_in_index
numbers_there cells location size bytes object numbers enough same told =
    rw (le-leb size (length object) enough, same) (rw (le-leb size (length bytes) (long_enough cells location size bytes numbers told)) at told)

module _ (index : Meaning) (l : Layout) (object numbers : List ℕ) (there : numbers_in_index index.cells l.location l.index_size object ≡ Some numbers)
    (counted : length numbers ≡ 2 * count_of (grid_of l.shape l.sub))
    (good : (k : ℕ) → k < count_of (grid_of l.shape l.sub) → IsGood (slot_at (length object) numbers k)) where
  many : count_of (grid_of l.shape l.sub) ≡ length numbers / 2
  many = omega (arith, counted)

  -- there is nothing to gain
  pub kept_whole : compact_size l (slot_at (length object) numbers) ≡ length object → IsCompact index.cells l object
  kept_whole same =
      let are = are_slots (length object) numbers (count_of (grid_of l.shape l.sub)) many good in
      compact_shard index l object numbers (slots_of (length object) numbers) there are (size_present index l object numbers (slots_of (length object) numbers) there are ∙ same)

  packed : IsPacked object (slots_of (length object) numbers) (slices_of object (slot_at (length object) numbers) (length numbers / 2))
      (packed_slots (slot_at (length object) numbers) (length numbers / 2)) (length numbers / 2)
  packed = packed_slices object numbers (λ k below. good k (omega (arith, below, counted)))

  -- how many bytes the slices are
  pub slices_sized : length (slices_of object (slot_at (length object) numbers) (length numbers / 2)) ≡ present_size (slot_at (length object) numbers) (count_of (grid_of l.shape l.sub))
  slices_sized =
      let n = length numbers / 2 in
      sym packed.filled ∙ taken_present (length object) numbers n (omega arith) ∙ ap (present_size (slot_at (length object) numbers)) (sym many)

  module _ (new : List ℕ) (sized : length new ≡ l.index_size) where
    abbrev all : List ℕ
    all = whole_shard l.location new (slices_of object (slot_at (length object) numbers) (length numbers / 2))

    pub executed_long : length all ≡ compact_size l (slot_at (length object) numbers)
    executed_long = (whole_of l.location l.index_size new (slices_of object (slot_at (length object) numbers) (length numbers / 2)) sized).len ∙ ap (λ m. l.index_size + m) slices_sized

    pub executed_compacted : compact_size l (slot_at (length object) numbers) + 1 < 2 ^ 64 → compact_size l (slot_at (length object) numbers) ≢ length object
        → IsIndexOf index.written (data_start l.location l.index_size) (packed_slots (slot_at (length object) numbers) (count_of (grid_of l.shape l.sub))) new
        → IsCompacted index l object all
    executed_compacted small other is =
        let slots = slots_of (length object) numbers in
        let slot = slot_at (length object) numbers in
        let slices = slices_of object slot (length numbers / 2) in
        let are = are_slots (length object) numbers (count_of (grid_of l.shape l.sub)) many good in
        let n : length numbers / 2 ≡ length slots = sym (are.counted ∙ many) in
        let here = subst (IsPacked object slots slices (packed_slots slot (length numbers / 2))) n packed in
        let index_is = subst (λ m. IsIndexOf index.written (data_start l.location l.index_size) (packed_slots slot m) new) many is in
        compacted_shard index l object numbers slots there are all
        (λ same. other (sym (size_present index l object numbers slots there are) ∙ same))
        (rewritten_shard index.written l.location l.index_size object slices new all slots (packed_slots slot (length numbers / 2)) here index_is sized
        (omega (arith, small, slices_sized)) refl)
