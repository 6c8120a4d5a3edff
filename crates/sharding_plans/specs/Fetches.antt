-- Slices of an object that are fetched together: ranges of its bytes, ascending, of which each holds slices that lie near one another.
use Rattle.std.specs.Prelude.{◌≡◌, ◌≤◌, ◌<◌, ◌+◌, ◌^◌, ℕ, List, [], ◌∷◌, length}
use Rattle.std.specs.List.{All, AllAdjacentBelow, Contains, flat_map}
use Rattle.storage_handles.specs.declared.bytes.Interval.{Interval}
use Rattle.sharding_format.specs.declared.slot.Slot.{Slot}
use Rattle.sharding_format.specs.declared.slot.Slot.TheVariants.{Absent, InRange, Bad}

abbrev pub end_of : Interval → ℕ
end_of range = range.offset + range.size

-- it ends below 2^64
abbrev pub Fits : Interval → Type 0
Fits range = end_of range < 2 ^ 64

-- a slice lies in a range
abbrev pub IsHeldBy : Interval → Interval → Type 0
IsHeldBy slice range = (range.offset ≤ slice.offset) × (end_of slice ≤ end_of range)

-- some range has it
abbrev pub IsFetched : List Interval → Interval → Type 0
IsFetched fetches slice = (range : Interval) × Contains fetches range × IsHeldBy slice range

-- a byte is one of a slice, or one of the first `gap` bytes behind it
abbrev pub IsNear : ℕ → Interval → ℕ → Type 0
IsNear gap slice position = (slice.offset ≤ position) × (position < end_of slice + gap)

-- a range begins where a slice begins and ends where one ends, and has no byte but those of slices and of gaps between them
pub record IsFetch (gap : ℕ) (slices : List Interval) (range : Interval) : Type 0 where
  pub first : Interval
  pub has_first : Contains slices first
  pub begins : first.offset ≡ range.offset
  pub last : Interval
  pub has_last : Contains slices last
  pub ends : end_of last ≡ end_of range
  pub near : (position : ℕ) → range.offset ≤ position → position < end_of range
      → (slice : Interval) × Contains slices slice × IsNear gap slice position

-- one range ends more than `gap` bytes before another begins
abbrev pub AreApart : ℕ → Interval → Interval → Type 0
AreApart gap range next = end_of range + gap < next.offset

-- slices are fetched in ranges: each slice lies in one, each range is one of near slices, and they are apart, ascending
pub record AreFetches (gap : ℕ) (slices fetches : List Interval) : Type 0 where
  pub held : All (IsFetched fetches) slices
  pub each : All (IsFetch gap slices) fetches
  pub apart : AllAdjacentBelow (AreApart gap) fetches (length fetches)

-- the slices that are stored
abbrev pub slice_of_slot : Slot → List Interval
slice_of_slot Absent = []
slice_of_slot (InRange offset size) = record { offset = offset; size = size } ∷ []
slice_of_slot Bad = []

abbrev pub stored_slices : List Slot → List Interval
stored_slices slots = flat_map slice_of_slot slots
