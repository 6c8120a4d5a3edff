-- The slices that the entries of an index name, packed: one after the other, by ascending number, and the entries that name them there.
use Rattle.std.specs.Prelude.{ℕ, ◌/◌, List, length, map}
use Rattle.std.specs.List.{flat_map, range_with_len}
use Rattle.sharding_format.specs.Index.{slot_at}
use Rattle.sharding_format.specs.Compacting.{present_size}
use Rattle.sharding_format.specs.Packing.{slice_of, moved_slot}
use Rattle.sharding_format.specs.declared.slot.Slot.{Slot}

-- what the entries of an index say of a shard of this length
abbrev pub slots_of : ℕ → List ℕ → List Slot
slots_of len numbers = map (slot_at len numbers) (range_with_len 0 (length numbers / 2))

-- the slices of the first n subchunks, by the slot of each, one after the other
abbrev pub slices_of : List ℕ → (ℕ → Slot) → ℕ → List ℕ
slices_of bytes slots n = flat_map (λ k. slice_of bytes (slots k)) (range_with_len 0 n)

-- the slots of these slices where they stand one after the other
abbrev pub packed_slots : (ℕ → Slot) → ℕ → List Slot
packed_slots slots n = map (λ k. moved_slot (slots k) (present_size slots k)) (range_with_len 0 n)
