-- Where new slices go after those of a stored shard.
use Rattle.std.specs.Prelude.{ℕ, ◌+◌, ◌-◌, max, List, map, fold}
use Rattle.std.specs.List.{range_with_len}
use Rattle.sharding_format.specs.Index.{slot_at}
use Rattle.sharding_format.specs.declared.location.ShardingIndexLocation.{ShardingIndexLocation}
use Rattle.sharding_format.specs.declared.location.ShardingIndexLocation.TheVariants.{Start, End}
use Rattle.sharding_format.specs.declared.slot.Slot.{Slot}
use Rattle.sharding_format.specs.declared.slot.Slot.TheVariants.{Absent, InRange, Bad}

-- where a slot's slice ends, 0 where there is none
abbrev pub slot_end : Slot → ℕ
slot_end Absent = 0
slot_end (InRange offset size) = offset + size
slot_end Bad = 0

-- the greatest end of a slice of a shard of so many bytes, and no less than a number
abbrev pub last_end : (least len : ℕ) → List ℕ → (subchunks : ℕ) → ℕ
last_end least len numbers subchunks = fold max least (map (λ k. slot_end (slot_at len numbers k)) (range_with_len 0 subchunks))

-- where new slices go after the old ones: with the index at the end, where it began; else behind the last old slice
abbrev pub offset_after : ShardingIndexLocation → (index_size len : ℕ) → List ℕ → (subchunks : ℕ) → ℕ
offset_after Start index_size len numbers subchunks = last_end index_size len numbers subchunks
offset_after End index_size len numbers subchunks = len - index_size

-- how long the object is then
abbrev pub length_after : ShardingIndexLocation → (len write_offset total : ℕ) → ℕ
length_after Start len write_offset total = max len (write_offset + total)
length_after End len write_offset total = len + total

-- where the index goes: first, or right behind the new slices
abbrev pub index_after : ShardingIndexLocation → (write_offset total : ℕ) → ℕ
index_after Start write_offset total = 0
index_after End write_offset total = write_offset + total
