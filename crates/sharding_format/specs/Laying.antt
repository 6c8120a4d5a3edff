-- The steps of encoding: the slices of the data part, laid end to end in an order of the subchunks, and the index of them.
use Rattle.std.specs.Prelude.{◌≡◌, ◌≤◌, ◌<◌, ◌^◌, ℕ, ◌+◌, ◌*◌, Bool, true, false, List, [], ◌++◌, length, slice_index, slice_index_or, map, take}
use Rattle.std.specs.List.{All, range_with_len}
use Rattle.parts_errors.specs.Words.{Written}
use Rattle.parts_subsets.specs.Grid.{subchunk}
use Rattle.sharding_format.specs.Index.{absent_number, element_of_number}
use Rattle.sharding_format.specs.Encoding.{IsAllFill, IsStored, IsStoredAt, stored_size, BeginsAt}
use Rattle.sharding_format.specs.declared.slot.Slot.{Slot}
use Rattle.sharding_format.specs.declared.slot.Slot.TheVariants.{Absent, InRange, Bad}
use Rattle.sharding_format.specs.declared.location.ShardingIndexLocation.{ShardingIndexLocation}
use Rattle.sharding_format.specs.declared.location.ShardingIndexLocation.TheVariants.{Start, End}

-- where it is stored
abbrev pub placed_slot : Bool → ℕ → ℕ → Slot
placed_slot true offset size = InRange offset size
placed_slot false offset size = Absent

-- what is to be stored of a subchunk stands after the old bytes, which stay, and the slot says where
pub record IsStoredAfter (inner_written : Written) (fill : List ℕ) (e : List (List ℕ)) (old new : List ℕ) (slot : Slot) : Type 0 where
  pub present : Bool
  pub slice : List ℕ
  pub stored : IsStored inner_written fill e present slice
  pub appended : new ≡ old ++ slice
  pub placed : slot ≡ placed_slot present (length old) (length slice)

-- a subchunk is stored in a data part where its slot says
abbrev pub IsStoredIn : Written → List ℕ → List (List ℕ) → List ℕ → Slot → Type 0
IsStoredIn inner_written fill e bytes slot = IsStoredAt inner_written fill (λ offset size. offset + size ≤ length bytes) e bytes slot

-- the bytes that the slots of some subchunks take
abbrev pub taken_by : List Slot → List ℕ → ℕ
taken_by slots numbers = stored_size (λ j. slice_index_or slots j Bad) numbers

-- the bytes that the first k slots take
abbrev pub taken : List Slot → ℕ → ℕ
taken slots k = taken_by slots (range_with_len 0 k)

-- there is a slot for each subchunk, and the data part holds the first i subchunks of an order, one after the other
pub record IsStoredInOrder (inner_written : Written) (fill shape sub : List ℕ) (a : List (List ℕ)) (bytes : List ℕ)
    (slots : List Slot) (order : List ℕ) (i : ℕ) : Type 0 where
  pub counted : length slots ≡ length order
  pub stored_slices : (j : ℕ) → j < i
      → IsStoredIn inner_written fill (subchunk shape sub a (slice_index order j)) bytes (slice_index_or slots (slice_index order j) Bad)
  pub begins : (j : ℕ) → j < i → BeginsAt (taken_by slots (take j order)) (slice_index_or slots (slice_index order j) Bad)
  pub filled : taken_by slots (take i order) ≡ length bytes

-- the numbers of the index for a slot of the data part, which begins at `start`
abbrev pub offset_number : ℕ → Slot → ℕ
offset_number start Absent = absent_number
offset_number start (InRange offset size) = start + offset
offset_number start Bad = 0

abbrev pub size_number : Slot → ℕ
size_number Absent = absent_number
size_number (InRange offset size) = size
size_number Bad = 0

-- the slot ends below the number that stands for what isn't there
abbrev pub EndsBelow : ℕ → Slot → Type 0
EndsBelow start (InRange offset size) = start + offset + size < absent_number
EndsBelow start _ = Unit {0}

-- the index's numbers of these slots
pub record AreNumbersOf (start : ℕ) (slots : List Slot) (numbers : List ℕ) (k : ℕ) : Type 0 where
  pub counted : length numbers ≡ 2 * k
  pub offsets : (j : ℕ) → j < k → slice_index numbers (2 * j) ≡ offset_number start (slice_index_or slots j Bad)
  pub sizes : (j : ℕ) → j < k → slice_index numbers (2 * j + 1) ≡ size_number (slice_index_or slots j Bad)

-- the bytes of a shard
abbrev pub whole_shard : ShardingIndexLocation → List ℕ → List ℕ → List ℕ
whole_shard Start index bytes = index ++ bytes
whole_shard End index bytes = bytes ++ index

-- the bytes are an index of these slots, the data part beginning at `start`
pub record IsIndexOf (index_written : Written) (start : ℕ) (slots : List Slot) (index : List ℕ) : Type 0 where
  pub numbers : List ℕ
  pub are : AreNumbersOf start slots numbers (length slots)
  pub below : All (λ n. n < 2 ^ 64) numbers
  pub written : index_written (map element_of_number numbers) index
