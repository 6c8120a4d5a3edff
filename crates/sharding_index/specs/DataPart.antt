-- Where the slices of an index lie.
use Rattle.std.specs.Prelude.{◌≤◌, ℕ, ◌+◌, List, Option}
use Rattle.parts_errors.specs.Words.{Refusals}
use Rattle.parts_errors.specs.Order.{Each}
use Rattle.parts_errors.specs.declared.error.CodecError.{CodecError}
use Rattle.parts_errors.specs.declared.error.CodecError.TheVariants.{BadIndexEntry}
use Rattle.sharding_format.specs.Index.{data_start, data_end}
use Rattle.sharding_format.specs.DecodeRefusals.{slot_by}
use Rattle.sharding_format.specs.declared.location.ShardingIndexLocation.{ShardingIndexLocation}
use Rattle.sharding_format.specs.declared.slot.Slot.{Slot}
use Rattle.sharding_format.specs.declared.slot.Slot.TheVariants.{Absent, InRange, Bad}

-- a slot is absent, or its slice lies between two places
abbrev pub LiesBetween : (start end : ℕ) → Slot → Type 0
LiesBetween start end Absent = Unit {0}
LiesBetween start end (InRange offset size) = (start ≤ offset) × (offset + size ≤ end)
LiesBetween start end Bad = ⊥

-- a slot is absent, or its slice lies in the data part of a shard of so many bytes, whose index has this size
abbrev pub IsInDataPart : ShardingIndexLocation → (index_size len : ℕ) → Slot → Type 0
IsInDataPart location index_size len slot = LiesBetween (data_start location index_size) (data_end location index_size len) slot

-- the tests of the first n pairs of an index, ascending: each is absent, or its slice lies in the data part
abbrev pub EntryRefusals : ShardingIndexLocation → (index_size len : ℕ) → Option (List ℕ) → ℕ → Refusals → CodecError → Type 0
EntryRefusals location index_size len numbers n later =
    Each n (λ k. IsInDataPart location index_size len (slot_by len numbers k)) (λ k. BadIndexEntry k) later
