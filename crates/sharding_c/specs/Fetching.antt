-- Slices that are fetched together, as C tells and gets them.
use Rattle.std.specs.Prelude.{◌≡◌, ◌<◌, ◌≤◌, ◌⊎◌, ℕ, List, map, length, slice_index, slice_index_or}
use Rattle.parts_errors.specs.Words.{Refusals}
use Rattle.parts_errors.specs.Order.{◌or◌then◌, Each, done, RefusedBy}
use Rattle.parts_errors.specs.declared.error.CodecError.{CodecError}
use Rattle.parts_errors.specs.declared.error.CodecError.TheVariants.{InvalidNumberOfElements, BadIndexEntry}
use Rattle.storage_handles.specs.declared.bytes.Interval.{Interval}
use Rattle.sharding_format.specs.Index.{absent_number, slot_of_entry}
use Rattle.sharding_format.specs.Compacting.{IsGood}
use Rattle.sharding_format.specs.declared.slot.Slot.{Slot}
use Rattle.sharding_format.specs.declared.slot.Slot.TheVariants.{Absent, InRange, Bad}
use Rattle.sharding_plans.specs.Fetches.{AreFetches, IsHeldBy, stored_slices}
use Rattle.sharding_c.specs.declared.layout.Range.{Range}
use Rattle.sharding_c.specs.declared.status.Refusal.{Refusal}
use Rattle.sharding_c.specs.declared.status.Refusal.TheVariants.{Codec, RoomTooSmall}

-- what a range says of an object whose length is not known: it is absent, a slice, or one that ends past 2^64
abbrev pub slot_of_range : Range → Slot
slot_of_range range = slot_of_entry absent_number range.offset range.size

abbrev pub slots_of_ranges : List Range → List Slot
slots_of_ranges ranges = map slot_of_range ranges

abbrev pub range_of : Interval → Range
range_of interval = record { offset = interval.offset; size = interval.size }

-- a number names the fetch in which a slice lies; the absent number stands for none
abbrev pub IsFetchOf : List Interval → ℕ → Slot → Type 0
IsFetchOf fetches number Absent = number ≡ absent_number
IsFetchOf fetches number (InRange offset size) = (number < length fetches)
    × IsHeldBy (record { offset = offset; size = size }) (slice_index_or fetches number (record { offset = offset; size = size }))
IsFetchOf fetches number Bad = ⊥

-- for each range the number of its fetch
pub record AreFetchNumbers (fetches : List Interval) (slots : List Slot) (numbers : List ℕ) (n : ℕ) : Type 0 where
  pub each : (i : ℕ) → i < n → IsFetchOf fetches (slice_index numbers i) (slice_index_or slots i Absent)

-- the first n ranges stand in front of a room, and what was behind them there still does
pub record AreRangesWritten (fetches : List Interval) (old new : List Range) (n : ℕ) : Type 0 where
  pub ranges : (i : ℕ) (d : Range) (e : Interval) → i < n → slice_index_or new i d ≡ range_of (slice_index_or fetches i e)
  pub others : (i : ℕ) (d : Range) → n ≤ i → slice_index_or new i d ≡ slice_index_or old i d

-- the fetches of slices stand in front of a room, and for each slice the number of its fetch
pub record AreFetchesWritten (gap : ℕ) (slices old new : List Range) (numbers : List ℕ) (count : ℕ) : Type 0 where
  pub fetches : List Interval
  pub are : AreFetches gap (stored_slices (slots_of_ranges slices)) fetches
  pub numbered : AreFetchNumbers fetches (slots_of_ranges slices) numbers (length slices)
  pub count_is : count ≡ length fetches
  pub written : AreRangesWritten fetches old new (length fetches)

-- no slice ends past 2^64
abbrev pub SliceRefusals : List Range → Refusals → Refusals
SliceRefusals slices later =
    Each (length slices) (λ k. IsGood (slice_index_or (slots_of_ranges slices) k Absent)) (λ k. BadIndexEntry k) later

-- the tests of fetching slices, by how many numbers and how many ranges have room
abbrev pub FetchTests : (gap : ℕ) → List Range → (numbers room : ℕ) → Refusal → Type 0
FetchTests gap slices numbers room refusal =
    ((error : CodecError) × (refusal ≡ Codec error)
    × RefusedBy (SliceRefusals slices (numbers ≡ length slices or InvalidNumberOfElements then done)) error)
    ⊎ ((fetches : List Interval) × AreFetches gap (stored_slices (slots_of_ranges slices)) fetches
    × (room < length fetches) × (refusal ≡ RoomTooSmall (length fetches)))
