-- When bytes are an encoding of a shard.
use Rattle.std.specs.Prelude.{◌≡◌, ◌≤◌, ◌<◌, ◌^◌, ℕ, ◌+◌, ◌*◌, Bool, true, false, IsTrue, List, [], map, length}
use Rattle.std.specs.List.{All, range_with_len, sum_by}
use Rattle.parts_errors.specs.Words.{Written}
use Rattle.parts_row_major.specs.Numbering.{count_of}
use Rattle.parts_subsets.specs.Grid.{grid_of, subchunk}
use Rattle.sharding_format.specs.Index.{slot_at, slice_at, index_part, data_start, data_end, element_of_number}
use Rattle.sharding_format.specs.Cells.{Layout}
use Rattle.sharding_format.specs.WriteOrder.{is_ordered, numbers_in_order, numbers_before}
use Rattle.sharding_format.specs.declared.slot.Slot.{Slot}
use Rattle.sharding_format.specs.declared.slot.Slot.TheVariants.{Absent, InRange, Bad}

-- every element is the fill value
abbrev pub IsAllFill : List ℕ → List (List ℕ) → Type 0
IsAllFill fill elements = All (λ e. e ≡ fill) elements

-- what is to be stored of a subchunk: nothing exactly where it is all fill
abbrev pub IsStored : Written → (fill : List ℕ) → (elements : List (List ℕ)) → (present : Bool) → (bytes : List ℕ) → Type 0
IsStored inner_written fill e true bytes = (¬ (IsAllFill fill e)) × inner_written e bytes
IsStored inner_written fill e false bytes = IsAllFill fill e × (bytes ≡ [])

-- a subchunk is stored where its slot says: nowhere exactly where it is all fill, and else as an encoding, at an offset and of a
-- size that lie where they must
abbrev pub IsStoredAt : Written → (fill : List ℕ) → (Lies : (offset size : ℕ) → Type 0) → (elements : List (List ℕ))
    → (bytes : List ℕ) → Slot → Type 0
IsStoredAt inner_written fill Lies elements bytes Absent = IsAllFill fill elements
IsStoredAt inner_written fill Lies elements bytes (InRange offset size) =
    (¬ (IsAllFill fill elements)) × inner_written elements (slice_at offset size bytes) × Lies offset size
IsStoredAt inner_written fill Lies elements bytes Bad = ⊥

-- a subchunk stands where its slot says, in the shard's data part
abbrev pub StandsAt : Written → Layout → List ℕ → List (List ℕ) → Slot → Type 0
StandsAt inner_written l bytes elements slot =
    IsStoredAt inner_written l.fill
    (λ offset size. (data_start l.location l.index_size ≤ offset) × (offset + size ≤ data_end l.location l.index_size (length bytes)))
    elements bytes slot

-- two slots share no byte, as where one of them has none
abbrev pub AreApart : Slot → Slot → Type 0
AreApart (InRange o n) (InRange p m) = (i : ℕ) → o ≤ i → i < o + n → p ≤ i → ¬ (i < p + m)
AreApart _ _ = Unit {0}

abbrev pub slot_size : Slot → ℕ
slot_size Absent = 0
slot_size (InRange offset size) = size
slot_size Bad = 0

-- the bytes that the slices of some subchunks have, by the slot of each
abbrev pub stored_size : (slots : ℕ → Slot) → (numbers : List ℕ) → ℕ
stored_size slots numbers = sum_by (λ k. slot_size (slots k)) numbers

-- a slice begins here, where there is one
abbrev pub BeginsAt : ℕ → Slot → Type 0
BeginsAt write_offset Absent = Unit {0}
BeginsAt write_offset (InRange offset size) = offset ≡ write_offset
BeginsAt write_offset Bad = Unit {0}

-- the bytes are an encoding of the array, by these numbers of the index: the index is an encoding of the numbers; each
-- subchunk stands where its entry says; no two share a byte; together they fill the data part; and in an order that leaves one
-- place for each, as `C` and `Morton` do, each begins where those before it in this order end
pub record IsEncodingBy (inner_written : Written) (index_written : Written)
    (l : Layout) (a : List (List ℕ)) (bytes : List ℕ) (numbers : List ℕ) : Type 0 where
  pub long_enough : l.index_size ≤ length bytes
  pub counted : length numbers ≡ 2 * count_of (grid_of l.shape l.sub)
  pub below : All (λ n. n < 2 ^ 64) numbers
  pub index : index_written (map element_of_number numbers) (index_part l.location l.index_size bytes)
  pub stand : (k : ℕ) → k < count_of (grid_of l.shape l.sub)
      → StandsAt inner_written l bytes (subchunk l.shape l.sub a k) (slot_at (length bytes) numbers k)
  pub apart : (j k : ℕ) → j < k → k < count_of (grid_of l.shape l.sub)
      → AreApart (slot_at (length bytes) numbers j) (slot_at (length bytes) numbers k)
  pub filled : l.index_size + stored_size (slot_at (length bytes) numbers) (range_with_len 0 (count_of (grid_of l.shape l.sub)))
      ≡ length bytes
  pub in_order : IsTrue (is_ordered l.order) → (k : ℕ) → k < count_of (grid_of l.shape l.sub)
      → BeginsAt (data_start l.location l.index_size
      + stored_size (slot_at (length bytes) numbers) (numbers_before k (numbers_in_order l.order (grid_of l.shape l.sub))))
      (slot_at (length bytes) numbers k)

-- the bytes are an encoding of the array
pub record IsEncoding (inner_written : Written) (index_written : Written)
    (l : Layout) (a : List (List ℕ)) (bytes : List ℕ) : Type 0 where
  pub numbers : List ℕ
  pub holds : IsEncodingBy inner_written index_written l a bytes numbers
