-- A shard that is to be written whole: its slices, one after the other in ascending number, and its index.
use Rattle.std.specs.Prelude.{◌≡◌, ◌≤◌, ◌<◌, ◌^◌, ◌+◌, ◌*◌, ◌==◌, ℕ, if◌then◌else◌, List, Some, map, length, slice_index}
use Rattle.std.specs.List.{All}
use Rattle.parts_errors.specs.Words.{Elements, Written, Refusals}
use Rattle.parts_errors.specs.Order.{◌or◌then◌, Each, done}
use Rattle.parts_errors.specs.declared.error.CodecError.TheVariants.{TooLarge, ShardTooShort, InvalidNumberOfElements, BadIndexEntry}
use Rattle.parts_row_major.specs.Numbering.{count_of}
use Rattle.parts_subsets.specs.Grid.{grid_of, subchunk}
use Rattle.codec_traits.specs.Meanings.{Meaning}
use Rattle.sharding_format.specs.Index.{absent_number, slot_at, index_part, data_start, element_of_number, numbers_in_index}
use Rattle.sharding_format.specs.Cells.{Layout}
use Rattle.sharding_format.specs.Encoding.{IsStoredAt, IsEncodingBy}
use Rattle.sharding_format.specs.Compacting.{IsGood, IsCompact, IsCompaction, present_size, compact_size}
use Rattle.sharding_format.specs.Packing.{slice_of, moved_slot}
use Rattle.sharding_format.specs.Laying.{whole_shard}
use Rattle.sharding_format.specs.declared.order.SubchunkWriteOrder.TheVariants.{C}
use Rattle.sharding_format.specs.declared.slot.Slot.{Slot}
use Rattle.sharding_format.specs.declared.slot.Slot.TheVariants.{Absent, InRange}
use Rattle.sharding_plans.specs.declared.packed.IndexPlace.{IndexPlace}
use Rattle.sharding_plans.specs.declared.packed.PackedShard.{PackedShard}
use Rattle.sharding_plans.specs.ReadPlans.{HasEntries}

-- slices of these slots stand one after the other, ascending, from the start of the data part on; with the index they are all bytes
pub record IsPackedShard (place : IndexPlace) (count : ℕ) (slots : ℕ → Slot) (shard : PackedShard) : Type 0 where
  pub counted : length shard.numbers.items ≡ 2 * count
  pub below : All (λ n. n < 2 ^ 64) shard.numbers.items
  pub long : shard.len ≡ place.size + present_size slots count
  pub small : shard.len + 1 < 2 ^ 64
  pub stand : (k : ℕ) → k < count → slot_at shard.len shard.numbers.items k
      ≡ moved_slot (slots k) (data_start place.location place.size + present_size slots k)

-- the slot of a slice of this size, wherever it stands; none where the subchunk is not stored
abbrev pub slot_of_size : ℕ → Slot
slot_of_size size = if size == absent_number then Absent else InRange 0 size

abbrev pub slots_of_sizes : List ℕ → ℕ → Slot
slots_of_sizes sizes k = slot_of_size (slice_index sizes k)

-- the tests of laying out: the sizes are of all subchunks, and a number can say how long the shard is
abbrev pub LayOutRefusals : (shape sub : List ℕ) → IndexPlace → List ℕ → Refusals
LayOutRefusals shape sub place sizes =
    length sizes ≡ count_of (grid_of shape sub) or InvalidNumberOfElements then
    place.size + present_size (slots_of_sizes sizes) (count_of (grid_of shape sub)) + 1 < 2 ^ 64 or TooLarge then
    done

-- the tests of a compaction, behind that of the index's bytes: those of `compact`
abbrev pub CompactionRefusals : (shape sub : List ℕ) → IndexPlace → ℕ → List ℕ → Refusals
CompactionRefusals shape sub place len numbers =
    HasEntries shape sub numbers or InvalidNumberOfElements then
    place.size ≤ len or ShardTooShort then
    Each (count_of (grid_of shape sub)) (λ k. IsGood (slot_at len numbers k)) (λ k. BadIndexEntry k) (
    place.size + present_size (slot_at len numbers) (count_of (grid_of shape sub)) + 1 < 2 ^ 64 or TooLarge then
    done)

-- no entry is bad
abbrev pub AreGood : (count : ℕ) → (ℕ → Slot) → Type 0
AreGood count slots = (k : ℕ) → k < count → IsGood (slots k)

-- how the index of a layout stands
abbrev pub place_of : Layout → IndexPlace
place_of l = record { location = l.location; size = l.index_size }

-- an object has the length and the index of a packed shard
pub record IsWrittenAs (index_written : Written) (l : Layout) (shard : PackedShard) (object : List ℕ) : Type 0 where
  pub long : length object ≡ shard.len
  pub index : index_written (map element_of_number shard.numbers.items) (index_part l.location l.index_size object)

-- Whoever copies the slices of a shard to where a plan says, and writes the index, has compacted it; and where there is no plan the
-- shard is compact.
pub record CompactionLaw (index : Meaning) : Type 0 where
  pub copied : (l : Layout) (old old_numbers new : List ℕ) (shard : PackedShard)
      → AreGood (count_of (grid_of l.shape l.sub)) (slot_at (length old) old_numbers)
      → IsPackedShard (place_of l) (count_of (grid_of l.shape l.sub)) (slot_at (length old) old_numbers) shard
      → IsWrittenAs index.written l shard new
      → ((k : ℕ) → k < count_of (grid_of l.shape l.sub)
      → slice_of new (slot_at shard.len shard.numbers.items k) ≡ slice_of old (slot_at (length old) old_numbers k))
      → IsCompaction index.written l old old_numbers new
  pub kept : (l : Layout) (old numbers : List ℕ) → numbers_in_index index.cells l.location l.index_size old ≡ Some numbers
      → AreGood (count_of (grid_of l.shape l.sub)) (slot_at (length old) numbers)
      → compact_size l (slot_at (length old) numbers) ≡ length old → IsCompact index.cells l old

-- Whoever puts encoded subchunks of these sizes to where the lay-out says, and writes the index, has encoded the array, in order C.
pub record LayOutLaw (inner index : Meaning) : Type 0 where
  pub laid : (l : Layout) (array : Elements) (sizes object : List ℕ) (shard : PackedShard) → l.order ≡ C
      → IsPackedShard (place_of l) (count_of (grid_of l.shape l.sub)) (slots_of_sizes sizes) shard
      → IsWrittenAs index.written l shard object
      → ((k : ℕ) → k < count_of (grid_of l.shape l.sub)
      → IsStoredAt inner.written l.fill (λ offset size. Unit {0}) (subchunk l.shape l.sub array k) object
      (slot_at shard.len shard.numbers.items k))
      → IsEncodingBy inner.written index.written l array object shard.numbers.items

-- where the encoding of a subchunk stands among encodings of these sizes, one behind the other; nowhere where it is not stored
abbrev pub slot_among : List ℕ → ℕ → Slot
slot_among sizes k = moved_slot (slots_of_sizes sizes k) (present_size (slots_of_sizes sizes) k)

-- Whoever puts encoded subchunks of these sizes one behind the other, and the index of their lay-out before or behind them, has encoded
-- the array, in order C.
pub record EncodeLaw (inner index : Meaning) : Type 0 where
  pub encoded : (l : Layout) (array : Elements) (sizes encodings index_bytes : List ℕ) (shard : PackedShard) → l.order ≡ C
      → IsPackedShard (place_of l) (count_of (grid_of l.shape l.sub)) (slots_of_sizes sizes) shard
      → length encodings ≡ present_size (slots_of_sizes sizes) (count_of (grid_of l.shape l.sub))
      → length index_bytes ≡ l.index_size → index.written (map element_of_number shard.numbers.items) index_bytes
      → ((k : ℕ) → k < count_of (grid_of l.shape l.sub)
      → IsStoredAt inner.written l.fill (λ offset size. Unit {0}) (subchunk l.shape l.sub array k) encodings (slot_among sizes k))
      → IsEncodingBy inner.written index.written l array (whole_shard l.location index_bytes encodings) shard.numbers.items
