-- The steps of compacting: the slots of a shard, none of them bad, and their slices packed end to end.
use Rattle.std.specs.Prelude.{◌≡◌, ◌≤◌, ◌<◌, ◌^◌, ℕ, ◌+◌, ◌*◌, List, [], map, length, slice_index_or}
use Rattle.std.specs.List.{All}
use Rattle.parts_errors.specs.Words.{Written}
use Rattle.sharding_format.specs.Index.{slot_at, slice_at, index_part, data_start, element_of_number}
use Rattle.sharding_format.specs.Compacting.{IsMoved}
use Rattle.sharding_format.specs.Laying.{taken}
use Rattle.sharding_format.specs.declared.location.ShardingIndexLocation.{ShardingIndexLocation}
use Rattle.sharding_format.specs.declared.slot.Slot.{Slot}
use Rattle.sharding_format.specs.declared.slot.Slot.TheVariants.{Absent, InRange, Bad}

-- a slot names no byte outside a shard of so many bytes, and isn't bad
abbrev pub LiesInShard : ℕ → Slot → Type 0
LiesInShard len Absent = Unit {0}
LiesInShard len (InRange offset size) = offset + size ≤ len
LiesInShard len Bad = ⊥

-- the first k slots of an index of these numbers
pub record AreSlots (len : ℕ) (numbers : List ℕ) (slots : List Slot) (k : ℕ) : Type 0 where
  pub counted : length slots ≡ k
  pub are : (j : ℕ) → j < k → slice_index_or slots j Bad ≡ slot_at len numbers j
  pub inside : (j : ℕ) → j < k → LiesInShard len (slice_index_or slots j Bad)

-- the bytes that a slot names
abbrev pub slice_of : List ℕ → Slot → List ℕ
slice_of bytes Absent = []
slice_of bytes (InRange offset size) = slice_at offset size bytes
slice_of bytes Bad = []

-- the slot of the same slice at another place
abbrev pub moved_slot : Slot → ℕ → Slot
moved_slot Absent write_offset = Absent
moved_slot (InRange offset size) write_offset = InRange write_offset size
moved_slot Bad write_offset = Bad

-- the slices of the first k slots stand in the data part, one after the other, where the new slots say
pub record IsPacked (old : List ℕ) (slots : List Slot) (bytes : List ℕ) (write_offsets : List Slot) (k : ℕ) : Type 0 where
  pub counted : length write_offsets ≡ k
  pub moved : (j : ℕ) → j < k → IsMoved old (slice_index_or slots j Bad) (taken slots j) bytes (slice_index_or write_offsets j Bad)
  pub filled : taken slots k ≡ length bytes

-- the new shard is an index, of this size, and the slices of these slots one after the other
pub record IsRewritten (index_written : Written) (location : ShardingIndexLocation) (size : ℕ) (old : List ℕ)
    (slots : List Slot) (new : List ℕ) : Type 0 where
  pub numbers : List ℕ
  pub counted : length numbers ≡ 2 * length slots
  pub below : All (λ n. n < 2 ^ 64) numbers
  pub index : index_written (map element_of_number numbers) (index_part location size new)
  pub long : length new ≡ size + taken slots (length slots)
  pub moved : (k : ℕ) → k < length slots → IsMoved old (slice_index_or slots k Bad) (data_start location size + taken slots k) new
      (slot_at (length new) numbers k)
