-- A write into a shard: what becomes of the object, of its index and of its cells.
use Rattle.std.specs.Prelude.{◌≡◌, ◌≢◌, ◌≤◌, ◌<◌, ◌^◌, ◌⊎◌, ℕ, Bool, IsTrue, ◌+◌, ◌*◌, ◌/◌, max, List, Option, Some, None, [], length, map, slice_index, slice_index_or}
use Rattle.std.specs.List.{All, range_with_len}
use Rattle.parts_errors.specs.Words.{Bytes, Elements, CellList, CellsOf, Written, Refusals}
use Rattle.parts_errors.specs.declared.error.CodecError.{CodecError}
use Rattle.parts_errors.specs.declared.error.CodecError.TheVariants.{TooLarge}
use Rattle.parts_row_major.specs.Numbering.{count_of, number_of}
use Rattle.parts_row_major.specs.Subsets.{Subset, number_in}
use Rattle.parts_row_major.specs.Pieces.{IsUpdated}
use Rattle.parts_subsets.specs.Grid.{grid_of, cell_number}
use Rattle.parts_subsets.specs.Touched.{Touches, AreTouched}
use Rattle.parts_arrays.specs.ArraySpec.{ArraySpec, IsArrayOf, array_spec}
use Rattle.parts_arrays.specs.Arrays.{Array}
use Rattle.parts_arrays.specs.declared.data_type.DataTypeSize.TheVariants.{Variable}
use Rattle.storage_handles.specs.Writes.{bytes_of}
use Rattle.codec_traits.specs.Meanings.{Meaning}
use Rattle.sharding_format.specs.Index.{absent_number, slot_at, slice_at, index_part, data_start, data_end, element_of_number}
use Rattle.sharding_format.specs.Cells.{Layout, cell_in}
use Rattle.sharding_format.specs.Encoding.{StandsAt, stored_size, BeginsAt}
use Rattle.sharding_format.specs.Laying.{IsStoredIn, taken, offset_number, size_number}
use Rattle.sharding_format.specs.Serves.{layout_of}
use Rattle.sharding_format.specs.Packing.{slice_of}
use Rattle.sharding_index.specs.DataPart.{IsInDataPart}
pub use Rattle.sharding_layout.specs.Offsets.{slot_end, last_end, offset_after, length_after, index_after}
pub use Rattle.sharding_write.specs.OldCells.{HasSlice, AreCellsOf}
use Rattle.sharding_format.specs.declared.location.ShardingIndexLocation.{ShardingIndexLocation}
use Rattle.sharding_format.specs.declared.location.ShardingIndexLocation.TheVariants.{Start, End}
use Rattle.sharding_format.specs.declared.order.SubchunkWriteOrder.TheVariants.{Unordered}
use Rattle.sharding_format.specs.declared.slot.Slot.{Slot}
use Rattle.sharding_format.specs.declared.slot.Slot.TheVariants.{Absent, Bad}

-- no subchunk is stored: each number is the absent one
abbrev pub AreAbsent : List ℕ → Type 0
AreAbsent numbers = All (λ n. n ≡ absent_number) numbers

-- the held length and numbers are those of the object: without one each entry is absent; `index_in` says which numbers the index of
-- some bytes has
abbrev pub HoldsNumbers : (index_in : Bytes → Option (List ℕ)) → Option Bytes → (len : ℕ) → List ℕ → Type 0
HoldsNumbers index_in None len numbers = (len ≡ 0) × AreAbsent numbers
HoldsNumbers index_in (Some bytes) len numbers = (length bytes ≡ len) × (index_in bytes ≡ Some numbers)

-- no cell of the subset is at place p of subchunk k
abbrev pub IsUncovered : (shape sub : List ℕ) → Subset → (k p : ℕ) → Type 0
IsUncovered shape sub subset k p = (q : ℕ) → q < count_of subset.shape → cell_number shape sub k p ≢ number_in subset shape q

-- the elements of subchunk k after the write: those of the update where the subset covers them, and elsewhere the old cells,
-- which are there; `old` says what the old cell at a place is
pub record AreNewCells (shape : List ℕ) (sub_g : ArraySpec) (subset : Subset) (update : Elements) (old : ℕ → Option Bytes) (k : ℕ)
    (elements : Elements) : Type 0 where
  pub array : IsArrayOf sub_g elements
  pub given : (p q : ℕ) → p < count_of sub_g.shape → q < count_of subset.shape
      → cell_number shape sub_g.shape k p ≡ number_in subset shape q
      → slice_index_or elements p [] ≡ slice_index_or update q []
  pub kept : (p : ℕ) → p < count_of sub_g.shape → IsUncovered shape sub_g.shape subset k p → old p ≡ Some (slice_index_or elements p [])

-- the cells of subchunk k of an object
abbrev pub cells_in : CellsOf → (fill bytes numbers : List ℕ) → (k : ℕ) → ℕ → Option Bytes
cells_in inner_cells fill bytes numbers k = cell_in inner_cells fill bytes (slot_at (length bytes) numbers k)

-- the shard starts anew: of the subchunks that the subset doesn't touch none is stored
abbrev pub IsAnew : (shape sub : List ℕ) → Subset → (len : ℕ) → List ℕ → Type 0
IsAnew shape sub subset len numbers =
    (k : ℕ) → k < count_of (grid_of shape sub) → ¬ (Touches shape sub subset k) → slot_at len numbers k ≡ Absent

-- it does: the new slices begin where the data part does
pub record StartsAnew (l : Layout) (subset : Subset) (len : ℕ) (numbers : List ℕ) (total write_offset new_len : ℕ) : Type 0 where
  pub anew : IsAnew l.shape l.sub subset len numbers
  pub position_is : write_offset ≡ data_start l.location l.index_size
  pub long : new_len ≡ l.index_size + total

-- it does not: they go after the old ones
pub record GoesAfter (l : Layout) (subset : Subset) (len : ℕ) (numbers : List ℕ) (total write_offset new_len : ℕ) : Type 0 where
  pub not_anew : ¬ (IsAnew l.shape l.sub subset len numbers)
  pub position_is : write_offset ≡ offset_after l.location l.index_size len numbers (count_of (grid_of l.shape l.sub))
  pub long : new_len ≡ length_after l.location len write_offset total

-- where so many bytes of new slices begin, and how long the object is with them
abbrev pub ArePlaced : Layout → Subset → (len : ℕ) → List ℕ → (total write_offset new_len : ℕ) → Type 0
ArePlaced l subset len numbers total write_offset new_len =
    StartsAnew l subset len numbers total write_offset new_len ⊎ GoesAfter l subset len numbers total write_offset new_len

-- subchunk k keeps its entry, and its bytes
pub record IsKept (old numbers new new_numbers : List ℕ) (k : ℕ) : Type 0 where
  pub offset : slice_index new_numbers (2 * k) ≡ slice_index numbers (2 * k)
  pub size : slice_index new_numbers (2 * k + 1) ≡ slice_index numbers (2 * k + 1)
  pub slot : slot_at (length new) new_numbers k ≡ slot_at (length old) numbers k
  pub bytes : slice_of new (slot_at (length new) new_numbers k) ≡ slice_of old (slot_at (length old) numbers k)

-- subchunk k stands where its new entry says, with its new cells
pub record IsNew (inner : Meaning) (l : Layout) (sub_g : ArraySpec) (subset : Subset) (update : Elements)
    (old numbers new new_numbers : List ℕ)
    (k : ℕ) : Type 0 where
  pub elements : Elements
  pub cells : AreNewCells l.shape sub_g subset update (cells_in inner.cells l.fill old numbers k) k elements
  pub stands : StandsAt inner.written l new elements (slot_at (length new) new_numbers k)

-- the bytes that the first n of the touched subchunks take
abbrev pub touched_size : (len : ℕ) → (numbers touched : List ℕ) → (n : ℕ) → ℕ
touched_size len numbers touched n = stored_size (λ j. slot_at len numbers (slice_index touched j)) (range_with_len 0 n)

-- the object is a shard with this index, which stands where it belongs
pub record HasIndex (index_written : Written) (location : ShardingIndexLocation) (index_size : ℕ) (numbers bytes : List ℕ) : Type 0 where
  pub long_enough : index_size ≤ length bytes
  pub written : index_written (map element_of_number numbers) (index_part location index_size bytes)

-- where the new slices stand: one after the other from a place on, which goes, with the length, by what was there
pub record StandInRow (l : Layout) (subset : Subset) (touched : List ℕ) (old numbers new new_numbers : List ℕ) : Type 0 where
  pub write_offset : ℕ
  pub placed : ArePlaced l subset (length old) numbers (touched_size (length new) new_numbers touched (length touched)) write_offset
      (length new)
  pub begins : (j : ℕ) → j < length touched
      → BeginsAt (write_offset + touched_size (length new) new_numbers touched j) (slot_at (length new) new_numbers (slice_index touched j))

-- no object exactly where no subchunk is stored; else an index, with the new slices in a row
abbrev pub IsStoredAs : (index_written : Written) → Layout → Subset → (touched old numbers : List ℕ) → Option Bytes → List ℕ → Type 0
IsStoredAs index_written l subset touched old numbers None new_numbers = AreAbsent new_numbers
IsStoredAs index_written l subset touched old numbers (Some new) new_numbers =
    (¬ (AreAbsent new_numbers)) × HasIndex index_written l.location l.index_size new_numbers new
    × StandInRow l subset touched old numbers new new_numbers

-- the second object is the first with an update written over the cells of a subset: the touched subchunks stand with their new cells,
-- one after the other, and the others keep pair and bytes
pub record IsWriteOf (inner index : Meaning) (l : Layout) (sub_g : ArraySpec) (subset : Subset) (update : Elements)
    (old : Option Bytes) (numbers : List ℕ) (new : Option Bytes) (new_numbers : List ℕ) : Type 0 where
  pub touched : List ℕ
  pub are_touched : AreTouched l.shape l.sub subset touched
  pub counted : length new_numbers ≡ 2 * count_of (grid_of l.shape l.sub)
  pub below : All (λ n. n < 2 ^ 64) new_numbers
  pub stored : IsStoredAs index.written l subset touched (bytes_of old) numbers new new_numbers
  pub stand : (k : ℕ) → k < count_of (grid_of l.shape l.sub) → Touches l.shape l.sub subset k
      → IsNew inner l sub_g subset update (bytes_of old) numbers (bytes_of new) new_numbers k
  pub kept : (k : ℕ) → k < count_of (grid_of l.shape l.sub) → ¬ (Touches l.shape l.sub subset k)
      → IsKept (bytes_of old) numbers (bytes_of new) new_numbers k

-- the new cells are those of an update at the numbers of a subset's points, in their order, and the old ones everywhere else
abbrev pub AreOverlaid : (shape : List ℕ) → Subset → (update : Elements) → (old new : CellList) → Type 0
AreOverlaid shape subset update old new =
    IsUpdated (count_of subset.shape) (number_in subset shape)
    (λ i. slice_index_or old i None) (λ k. Some (slice_index_or update k [])) (λ i. slice_index_or new i None)

-- elements that were read at some coordinates after a write: in the subset those of the update, and elsewhere what the cell was before
pub record AreReadAfter (shape : List ℕ) (subset : Subset) (update : Elements) (old : CellList) (points : List (List ℕ))
    (elements : Elements) : Type 0 where
  pub written : (j q : ℕ) → j < length points → q < count_of subset.shape
      → number_in subset shape q ≡ number_of (slice_index_or points j []) shape → slice_index_or elements j [] ≡ slice_index_or update q []
  pub kept : (j : ℕ) → j < length points
      → ((q : ℕ) → q < count_of subset.shape → number_in subset shape q ≢ number_of (slice_index_or points j []) shape)
      → slice_index_or old (number_of (slice_index_or points j []) shape) None ≡ Some (slice_index_or elements j [])

-- the array at a place of a list
abbrev pub array_at : List Array → ℕ → Array
array_at arrays j = slice_index_or arrays j (record { kind = Variable; elements = [] })

-- the first k of some subchunks stand one after the other
pub record AreStoredInRow (inner_written : Written) (fill : List ℕ) (elements : ℕ → Elements) (bytes : Bytes) (slots : List Slot)
    (k : ℕ) : Type 0 where
  pub counted : length slots ≡ k
  pub stored_slices : (j : ℕ) → j < k → IsStoredIn inner_written fill (elements j) bytes (slice_index_or slots j Bad)
  pub begins : (j : ℕ) → j < k → BeginsAt (taken slots j) (slice_index_or slots j Bad)
  pub filled : taken slots k ≡ length bytes

-- the entries of the first n of some subchunks say where their slots stand, whose data part begins at `start`; the other entries are the
-- old ones
pub record HasEntries (touched : List ℕ) (slot : ℕ → Slot) (start : ℕ) (old new : List ℕ) (n : ℕ) : Type 0 where
  pub counted : length new ≡ length old
  pub offsets : (i : ℕ) → i < n → slice_index new (2 * slice_index touched i) ≡ offset_number start (slot i)
  pub sizes : (i : ℕ) → i < n → slice_index new (2 * slice_index touched i + 1) ≡ size_number (slot i)
  pub other_offsets : (k : ℕ) → ((i : ℕ) → i < n → slice_index touched i ≢ k) → slice_index new (2 * k) ≡ slice_index old (2 * k)
  pub other_sizes : (k : ℕ) → ((i : ℕ) → i < n → slice_index touched i ≢ k) → slice_index new (2 * k + 1) ≡ slice_index old (2 * k + 1)

-- new slices stand in a shard from a place on, where the entries say, one after another in its data part, and the index is one of the
-- numbers
pub record HasPut (index_written : Written) (location : ShardingIndexLocation) (index_size : ℕ) (touched : List ℕ) (slots : List Slot)
    (slices numbers : List ℕ) (write_offset : ℕ) (new new_numbers : List ℕ) : Type 0 where
  pub entries : HasEntries touched (λ i. slice_index_or slots i Bad) write_offset numbers new_numbers (length touched)
  pub below : All (λ n. n < 2 ^ 64) new_numbers
  pub index : HasIndex index_written location index_size new_numbers new
  pub after_start : data_start location index_size ≤ write_offset
  pub before_end : write_offset + length slices ≤ data_end location index_size (length new)
  pub small : length new < absent_number
  pub slice : (o n : ℕ) → o + n ≤ length slices → slice_at (write_offset + o) n new ≡ slice_at o n slices

-- the same of an object, which is there
abbrev pub IsPut : Written → ShardingIndexLocation → (index_size : ℕ) → (touched : List ℕ) → List Slot → (slices numbers : List ℕ)
    → (write_offset : ℕ)
    → Option Bytes → (new_numbers : List ℕ) → (new_len : ℕ) → Type 0
IsPut index_written location index_size touched slots slices numbers write_offset None new_numbers new_len = ⊥
IsPut index_written location index_size touched slots slices numbers write_offset (Some new) new_numbers new_len =
    HasPut index_written location index_size touched slots slices numbers write_offset new new_numbers × (length new ≡ new_len)

-- the slices that end at a place or before it are as they were
abbrev pub KeepsSlices : (start write_offset : ℕ) → (old new : List ℕ) → Type 0
KeepsSlices start write_offset old new = (o n : ℕ) → start ≤ o → o + n ≤ write_offset → slice_at o n new ≡ slice_at o n old

-- a place behind the old slices of an object of so many bytes, and its length with so many bytes of new slices there
abbrev pub GoesTo : ShardingIndexLocation → (index_size len write_offset total new_len : ℕ) → Type 0
GoesTo Start index_size len write_offset total new_len = (index_size ≤ write_offset) × (write_offset ≤ len)
    × (new_len ≡ max len (write_offset + total))
GoesTo End index_size len write_offset total new_len = (write_offset + index_size ≡ len) × (new_len ≡ len + total)

-- no subchunk is stored any more: the touched entries are absent as all others, and so are the new slots
pub record IsErased (touched : List ℕ) (slots : List Slot) (numbers new_numbers : List ℕ) : Type 0 where
  pub clear : HasEntries touched (λ i. Absent) 0 numbers new_numbers (length touched)
  pub absent : AreAbsent new_numbers
  pub none : All (λ slot. slot ≡ Absent) slots

-- without the touched entries none is left, and some new slot is a slice: the new slices are the shard's only ones
pub record IsBegun (index_written : Written) (location : ShardingIndexLocation) (index_size : ℕ) (touched : List ℕ) (slots : List Slot)
    (slices numbers : List ℕ) (new : Option Bytes) (new_numbers : List ℕ) (new_len : ℕ) : Type 0 where
  pub cleared : List ℕ
  pub clear : HasEntries touched (λ i. Absent) 0 numbers cleared (length touched)
  pub absent : AreAbsent cleared
  pub some : ¬ (All (λ slot. slot ≡ Absent) slots)
  pub put : IsPut index_written location index_size touched slots slices cleared (data_start location index_size) new new_numbers new_len
  pub long : new_len ≡ index_size + length slices

-- without the touched entries some are left: the new slices go after the old ones of an object that has an index
pub record IsAppended (index_written : Written) (location : ShardingIndexLocation) (index_size : ℕ) (touched : List ℕ) (slots : List Slot)
    (slices numbers old : List ℕ) (new : Option Bytes) (new_numbers : List ℕ) (new_len : ℕ) : Type 0 where
  pub cleared : List ℕ
  pub clear : HasEntries touched (λ i. Absent) 0 numbers cleared (length touched)
  pub present : ¬ (AreAbsent cleared)
  pub put : index_size ≤ length old
      → IsPut index_written location index_size touched slots slices cleared
      (offset_after location index_size (length old) numbers (length numbers / 2)) new new_numbers new_len
      × KeepsSlices (data_start location index_size)
      (offset_after location index_size (length old) numbers (length numbers / 2)) old (bytes_of new)
  pub long : new_len ≡ length_after location (length old)
      (offset_after location index_size (length old) numbers (length numbers / 2)) (length slices)

-- what becomes of an object with these new slices
abbrev pub IsSettled : Written → ShardingIndexLocation → (index_size : ℕ) → (touched : List ℕ) → List Slot → (slices numbers : List ℕ)
    → (old new : Option Bytes) → (new_numbers : List ℕ) → (new_len : ℕ) → Type 0
IsSettled index_written location index_size touched slots slices numbers old new new_numbers new_len =
    ((new ≡ None) × (new_len ≡ 0) × IsErased touched slots numbers new_numbers)
    ⊎ (IsBegun index_written location index_size touched slots slices numbers new new_numbers new_len
    ⊎ IsAppended index_written location index_size touched slots slices numbers (bytes_of old) new new_numbers new_len)

-- the length that the object has with new slices of so many bytes, with P: anew where no entry is left without the touched ones
abbrev pub HasNewLength : ShardingIndexLocation → (index_size : ℕ) → (touched numbers : List ℕ) → (len total : ℕ) → (ℕ → Type 0) → Type 0
HasNewLength location index_size touched numbers len total P =
    (cleared : List ℕ) × HasEntries touched (λ i. Absent) 0 numbers cleared (length touched)
    × ((AreAbsent cleared × P (index_size + total)) ⊎ ((¬ (AreAbsent cleared))
    × P (length_after location len (offset_after location index_size len numbers (length numbers / 2)) total)))

-- how new slices that are laid out may still be refused: for the length, or, where that fits, as the index is
abbrev pub RefusesToPut : ShardingIndexLocation → (index_size : ℕ) → (touched numbers : List ℕ) → (len total : ℕ) → Refusals
    → CodecError → Type 0
RefusesToPut location index_size touched numbers len total index e =
    ((e ≡ TooLarge) × HasNewLength location index_size touched numbers len total (λ n. 2 ^ 64 ≤ n + 1))
    ⊎ (HasNewLength location index_size touched numbers len total (λ n. n + 1 < 2 ^ 64) × index e)

-- how a write was made: the touched subchunks' new cells, laid out in slices, and what became of the object with these
pub record IsMade (inner : Meaning) (index_written : Written) (shape : List ℕ) (sub_g : ArraySpec) (location : ShardingIndexLocation)
    (index_size : ℕ)
    (subset : Subset) (update : Elements) (numbers : List ℕ) (old new : Option Bytes) (new_numbers : List ℕ) (new_len : ℕ) : Type 0 where
  pub touched : List ℕ
  pub are_touched : AreTouched shape sub_g.shape subset touched
  pub below : All (λ k. k < count_of (grid_of shape sub_g.shape)) touched
  pub elements : ℕ → Elements
  pub cells : (j : ℕ) → j < length touched
      → AreNewCells shape sub_g subset update (cells_in inner.cells sub_g.fill (bytes_of old) numbers (slice_index touched j))
      (slice_index touched j) (elements j)
  pub slots : List Slot
  pub slices : Bytes
  pub stored_slices : AreStoredInRow inner.written sub_g.fill elements slices slots (length touched)
  pub settled : IsSettled index_written location index_size touched slots slices numbers old new new_numbers new_len

-- the layout of a shard of this shape, whose subchunks are asked of the inner codec as this array spec says
abbrev pub layout_from : List ℕ → ArraySpec → ShardingIndexLocation → (index_size : ℕ) → Layout
layout_from shape sub_g location index_size =
    layout_of sub_g.shape location Unordered index_size (array_spec shape sub_g.data_type sub_g.fill)

-- what is held of a shard of so many bytes and n subchunks: its length can be counted; where some subchunk is stored it has room for
-- the index; and each entry is absent or in the data part
pub record IsCachedIndex (location : ShardingIndexLocation) (index_size n len : ℕ) (numbers : List ℕ) : Type 0 where
  pub counted : length numbers ≡ 2 * n
  pub room : len + 1 < 2 ^ 64
  pub long_enough : ¬ (AreAbsent numbers) → index_size ≤ len
  pub placed : (k : ℕ) → k < n → IsInDataPart location index_size len (slot_at len numbers k)

-- an index is held of an object: so much is known of its length and its numbers, and where the handle is transparent, they are the
-- object's; `index_in` says which numbers the index of some bytes has
pub record IsHeldIndex (index_in : Bytes → Option (List ℕ)) (location : ShardingIndexLocation) (index_size n : ℕ) (transparent : Bool)
    (contents : Option Bytes) (len : ℕ) (numbers : List ℕ) : Type 0 where
  pub cached : IsCachedIndex location index_size n len numbers
  pub told : IsTrue transparent → HoldsNumbers index_in contents len numbers
