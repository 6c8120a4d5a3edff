-- Subchunks of a shard whose bytes are their elements, as they are in memory, and the shard's elements where such subchunks follow
-- one another.
use Rattle.std.specs.Prelude.{◌≡◌, ◌+◌, ◌≤◌, ◌<◌, ℕ, List, [], Option, Some, None, map, length, replicate, slice_index_or}
use Rattle.std.specs.List.{concat, range_with_len}
use Rattle.parts_errors.specs.Words.{Bytes, CellsOf}
use Rattle.parts_row_major.specs.Numbering.{count_of}
use Rattle.parts_subsets.specs.Grid.{grid_of}
use Rattle.parts_row_major.specs.Pieces.{pieces}
use Rattle.parts_arrays.specs.ArraySpec.{ArraySpec}
use Rattle.parts_arrays.specs.Arrays.{Array}
use Rattle.parts_arrays.specs.declared.data_type.DataTypeSize.TheVariants.{Fixed}
use Rattle.sharding_format.specs.Index.{slot_at, slice_at}
use Rattle.sharding_format.specs.Serves.{subchunk_spec}
use Rattle.sharding_format.specs.steps.Decoding.{IsDecoded, element_in}
use Rattle.sharding_format.specs.declared.slot.Slot.{Slot}
use Rattle.sharding_format.specs.declared.slot.Slot.TheVariants.{Absent, InRange, Bad}
use Rattle.sharding_subchunks.specs.declared.plain_decoded.Run.{Run}

-- a slot of a shard of so many bytes is absent, or names so many of them
abbrev pub IsPlainSlot : (len size : ℕ) → Slot → Type 0
IsPlainSlot len size Absent = Unit {0}
IsPlainSlot len size (InRange offset named) = (named ≡ size) × (offset + named ≤ len)
IsPlainSlot len size Bad = ⊥

-- the subchunk of so many places that a slot names, whose elements of n bytes stand one after the other; nothing where it is absent
abbrev pub plain_part : (n positions : ℕ) → Bytes → Slot → Option Array
plain_part n positions b Absent = None
plain_part n positions b (InRange offset size) = Some (record { kind = Fixed n; elements = pieces n positions (slice_at offset size b) })
plain_part n positions b Bad = None

-- as many such subchunks
abbrev pub plain_chunks : (n positions : ℕ) → Bytes → (numbers : List ℕ) → ℕ → List (Option Array)
plain_chunks n positions b numbers many = map (λ k. plain_part n positions b (slot_at (length b) numbers k)) (range_with_len 0 many)

-- the bytes of the elements of such a subchunk: those of the fill value for each of so many places where it is absent
abbrev pub plain_bytes : (fill : Bytes) → (positions : ℕ) → Bytes → Slot → Bytes
plain_bytes fill positions b Absent = concat (replicate positions fill)
plain_bytes fill positions b (InRange offset size) = slice_at offset size b
plain_bytes fill positions b Bad = []

-- the bytes of a run
abbrev pub bytes_of_run : Bytes → Run → Bytes
bytes_of_run b run = slice_at run.from run.len b

-- the bytes are those of the elements of a shard whose subchunks, each of so many bytes, follow one another
pub record AreRowsOfShard (fill : Bytes) (shape sub : List ℕ) (b : Bytes) (numbers : List ℕ) (size : ℕ) (bytes : Bytes) : Type 0 where
  pub plain : (k : ℕ) → k < count_of (grid_of shape sub) → IsPlainSlot (length b) size (slot_at (length b) numbers k)
  pub bytes_are : let chunks = plain_chunks (length fill) (count_of sub) b numbers (count_of (grid_of shape sub)) in
      bytes ≡ concat (map (element_in chunks fill shape sub) (range_with_len 0 (count_of shape)))

-- the elements of a shard are those of its subchunks, each as the slot that names it says
pub record AreGathered (inner_cells : CellsOf) (g : ArraySpec) (sub : List ℕ) (b : Bytes)
    (numbers : List ℕ) (elements : List Bytes) : Type 0 where
  pub subchunks : List (Option Array)
  pub decoded : (k : ℕ) → k < count_of (grid_of g.shape sub)
      → IsDecoded inner_cells (subchunk_spec sub g) b (slot_at (length b) numbers k) (slice_index_or subchunks k None)
  pub elements_are : elements ≡ map (element_in subchunks g.fill g.shape sub) (range_with_len 0 (count_of g.shape))
