-- When bytes are a compaction of a shard: the same slices, in ascending number without a gap.
use Rattle.std.specs.Prelude.{◌≡◌, ◌≢◌, ◌<◌, ◌^◌, ℕ, ◌+◌, ◌*◌, List, Some, map, length}
use Rattle.std.specs.List.{All, range_with_len}
use Rattle.parts_errors.specs.Words.{CellsOf, Written}
use Rattle.parts_errors.specs.Order.{◌or◌then◌, Each}
use Rattle.parts_row_major.specs.Numbering.{count_of}
use Rattle.parts_subsets.specs.Grid.{grid_of}
use Rattle.parts_errors.specs.declared.error.CodecError.{CodecError}
use Rattle.parts_errors.specs.declared.error.CodecError.TheVariants.{TooLarge, BadIndexEntry}
use Rattle.codec_traits.specs.Meanings.{Meaning}
use Rattle.sharding_format.specs.Index.{slot_at, slice_at, index_part, data_start, element_of_number, numbers_in_index}
use Rattle.sharding_format.specs.Cells.{Layout}
use Rattle.sharding_format.specs.Encoding.{stored_size}
use Rattle.sharding_format.specs.Serves.{PlanRefusals}
use Rattle.sharding_format.specs.DecodeRefusals.{IndexRefusals, slot_by}
use Rattle.sharding_format.specs.EncodeRefusals.{RefusesIndex}
use Rattle.sharding_format.specs.declared.slot.Slot.{Slot}
use Rattle.sharding_format.specs.declared.slot.Slot.TheVariants.{Absent, InRange, Bad}

-- the sizes of the first n subchunks that are present, by the slot of each
abbrev pub present_size : (ℕ → Slot) → ℕ → ℕ
present_size slots n = stored_size slots (range_with_len 0 n)

-- the index's size and the sizes of all present subchunks
abbrev pub compact_size : Layout → (ℕ → Slot) → ℕ
compact_size l slots = l.index_size + present_size slots (count_of (grid_of l.shape l.sub))

-- the slice that a slot of the old shard names stands, byte for byte, at a place of the new one, and its slot says so
abbrev pub IsMoved : List ℕ → Slot → ℕ → List ℕ → Slot → Type 0
IsMoved old Absent write_offset new slot = slot ≡ Absent
IsMoved old (InRange offset size) write_offset new slot = (slot ≡ InRange write_offset size)
    × (slice_at write_offset size new ≡ slice_at offset size old)
IsMoved old Bad write_offset new slot = ⊥

-- the new shard is a compaction of the old one, whose index has these numbers: its index is an encoding of its numbers; each
-- present slice begins where the one before, by number, ends; and nothing else stands in it
pub record IsCompaction (index_written : Written) (l : Layout) (old old_numbers new : List ℕ) : Type 0 where
  pub numbers : List ℕ
  pub counted : length numbers ≡ 2 * count_of (grid_of l.shape l.sub)
  pub below : All (λ n. n < 2 ^ 64) numbers
  pub index : index_written (map element_of_number numbers) (index_part l.location l.index_size new)
  pub long : length new ≡ compact_size l (slot_at (length old) old_numbers)
  pub moved : (k : ℕ) → k < count_of (grid_of l.shape l.sub)
      → IsMoved old (slot_at (length old) old_numbers k)
      (data_start l.location l.index_size + present_size (slot_at (length old) old_numbers) k) new (slot_at (length new) numbers k)

-- the entry of a subchunk is absent or in range
abbrev pub IsGood : Slot → Type 0
IsGood Absent = Unit {0}
IsGood (InRange offset size) = Unit {0}
IsGood Bad = ⊥

-- an old shard has an index of these numbers, none of whose entries is bad
pub record IsWellIndexed (index_cells : CellsOf) (l : Layout) (old old_numbers : List ℕ) : Type 0 where
  pub told : numbers_in_index index_cells l.location l.index_size old ≡ Some old_numbers
  pub good : (k : ℕ) → k < count_of (grid_of l.shape l.sub) → IsGood (slot_at (length old) old_numbers k)

-- there is nothing to gain: the index and the present slices have as many bytes as the shard, whatever their order
pub record IsCompact (index_cells : CellsOf) (l : Layout) (old : List ℕ) : Type 0 where
  pub numbers : List ℕ
  pub read : IsWellIndexed index_cells l old numbers
  pub same_size : compact_size l (slot_at (length old) numbers) ≡ length old

-- the new shard is a compaction of the old one, which has another size than its index and its present slices
pub record IsCompacted (index : Meaning) (l : Layout) (old new : List ℕ) : Type 0 where
  pub old_numbers : List ℕ
  pub read : IsWellIndexed index.cells l old old_numbers
  pub other_size : compact_size l (slot_at (length old) old_numbers) ≢ length old
  pub rewritten : IsCompaction index.written l old old_numbers new

-- the tests of the entries, ascending, of the size of the compacted shard, and of its index, which is written only where the
-- shard has another size
abbrev pub PresentRefusals : (index : Meaning) → Layout → ℕ → (ℕ → Slot) → CodecError → Type 0
PresentRefusals index l len slots =
    Each (count_of (grid_of l.shape l.sub)) (λ k. IsGood (slots k)) (λ k. BadIndexEntry k) (
    compact_size l slots + 1 < 2 ^ 64 or TooLarge then
    (λ e. (compact_size l slots ≢ len) × RefusesIndex index (count_of (grid_of l.shape l.sub)) e))

-- the tests of `compact`, in their order; the data type isn't looked at, so elements count as of no bytes, and nor is the fill value
abbrev pub CompactRefusals : (index : Meaning) → Layout → List ℕ → CodecError → Type 0
CompactRefusals index l bytes =
    PlanRefusals index l.shape l.sub 0 (
    IndexRefusals index.decode_refusals index.cells l.location l.index_size bytes (
    PresentRefusals index l (length bytes) (slot_by (length bytes) (numbers_in_index index.cells l.location l.index_size bytes))))
