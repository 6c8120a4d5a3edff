-- What a check tells of the entries of an index.
use Rattle.std.specs.Prelude.{◌≡◌, ◌≤◌, ◌<◌, ◌+◌, ◌*◌, ◌&&◌, ◌||◌, ◌==◌, nat_le, if◌then◌else◌, ℕ, List, length, slice_index}
use Rattle.parts_errors.specs.declared.error.CodecError.TheVariants.{InvalidNumberOfElements}
use Rattle.sharding_format.specs.Index.{absent_number, data_start, data_end}
use Rattle.sharding_c.specs.declared.layout.Layout.{Layout}
use Rattle.sharding_c.specs.declared.layout.Stored.{Stored}
use Rattle.sharding_c.specs.declared.status.Refusal.{Refusal}
use Rattle.sharding_c.specs.declared.status.Refusal.TheVariants.{Codec, RoomTooSmall}
use Rattle.sharding_c.specs.Statuses.{◌or_refused◌then◌, passed}
use Rattle.sharding_c.specs.Layouts.{index_place, subchunks_of}
use Rattle.sharding_c.specs.Exports.{LaidTests}

-- an entry is absent (0), a slice of a data part from `start` to `end` (1), half absent (2), or a slice that does not lie there (3)
abbrev pub kind_of_entry : (start end offset size : ℕ) → ℕ
kind_of_entry start end offset size =
    if (offset == absent_number) && (size == absent_number) then 0
    else (if (offset == absent_number) || (size == absent_number) then 2
    else (if nat_le start offset && nat_le (offset + size) end then 1 else 3))

-- the kinds of the first n entries stand in front of a room, and what was behind them there still does
pub record AreKinds (start end : ℕ) (numbers old new : List ℕ) (n : ℕ) : Type 0 where
  pub kinds : (k : ℕ) → k < n
      → slice_index new k ≡ kind_of_entry start end (slice_index numbers (2 * k)) (slice_index numbers (2 * k + 1))
  pub others : (k : ℕ) → n ≤ k → slice_index new k ≡ slice_index old k

-- the same of a stored shard
abbrev pub IsChecked : Layout → Stored → (old new : List ℕ) → Type 0
IsChecked layout stored old new =
    AreKinds (data_start (index_place layout).location (index_place layout).size)
    (data_end (index_place layout).location (index_place layout).size stored.object_size) stored.numbers.now old new (subchunks_of layout)

-- the tests of a check, by how many kinds have room
abbrev pub CheckTests : Layout → Stored → (room : ℕ) → Refusal → Type 0
CheckTests layout stored room =
    LaidTests layout (
    length stored.numbers.now ≡ 2 * subchunks_of layout or_refused Codec InvalidNumberOfElements then
    subchunks_of layout ≤ room or_refused RoomTooSmall (subchunks_of layout) then
    passed)
