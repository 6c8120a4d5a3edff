-- How C tells the layout of a shard (Zarr V3 codec `sharding_indexed`).
use Rattle.std.specs.Prelude.{◌≡◌, ◌<◌, ◌≤◌, ◌+◌, ◌-◌, ◌*◌, ◌/◌, ◌%◌, ◌^◌, ◌==◌, ℕ, Bool, true, List, if◌then◌else◌, length, take, drop, slice_index, ◌++◌, flat_map}
use Rattle.std.specs.Int.{from_le_bytes, from_be_bytes, to_le_bytes, to_be_bytes, w32, w64}
use Rattle.parts_errors.specs.Words.{Bytes, Refusals}
use Rattle.parts_errors.specs.Order.{◌or◌then◌}
use Rattle.parts_errors.specs.declared.error.CodecError.TheVariants.{TooLarge, IncompatibleDimensionality, OutOfBounds, InvalidSubchunkShape}
use Rattle.parts_row_major.specs.Numbering.{count_of, AllPositive}
use Rattle.parts_row_major.specs.Subsets.{IsSubset}
use Rattle.parts_subsets.specs.Grid.{Divides, grid_of}
use Rattle.codec_checksums.specs.Castagnoli.{checksum}
use Rattle.sharding_format.specs.declared.location.ShardingIndexLocation.TheVariants.{Start, End}
use Rattle.sharding_plans.specs.declared.packed.IndexPlace.{IndexPlace}
use Rattle.sharding_c.specs.declared.layout.Layout.{Layout}
use Rattle.sharding_c.specs.declared.layout.Range.{Range}

-- a flag, which is a power of 2, is set: 1 for an index at the start, 2 for numbers in big endian order, 4 for a checksum behind them
abbrev pub is_set : ℕ → ℕ → Bool
is_set flags flag = flags / flag % 2 == 1

-- how many subchunks a shard has
abbrev pub subchunks_of : Layout → ℕ
subchunks_of layout = count_of (grid_of layout.shape.now layout.subchunk_shape.now)

-- the bytes of an index: two numbers of eight bytes for each subchunk, and the four bytes of a checksum, if it has one
abbrev pub index_size : ℕ → ℕ → ℕ
index_size flags subchunks = 16 * subchunks + (if is_set flags 4 then 4 else 0)

-- where the index stands, and how many bytes it has
abbrev pub index_place : Layout → IndexPlace
index_place layout = record {
  location = if is_set layout.index 1 then Start else End;
  size = index_size layout.index (subchunks_of layout);
}

-- the bytes of a number, and those of an index of some numbers, with its checksum if it has one
abbrev pub number_bytes : Bool → ℕ → Bytes
number_bytes is_big n = if is_big then to_be_bytes w64 n else to_le_bytes w64 n

abbrev pub index_bytes : ℕ → List ℕ → Bytes
index_bytes flags numbers =
    let bytes = flat_map (number_bytes (is_set flags 2)) numbers in
    if is_set flags 4 then bytes ++ to_le_bytes w32 (checksum bytes) else bytes

-- a layout has a grid of subchunks and an index
pub record IsLaidOut (layout : Layout) : Type 0 where
  pub same_axes : length layout.shape.now ≡ length layout.subchunk_shape.now
  pub positive : AllPositive layout.shape.now
  pub subchunk_positive : AllPositive layout.subchunk_shape.now
  pub divides : Divides layout.subchunk_shape.now layout.shape.now
  pub counted : count_of layout.shape.now < 2 ^ 64
  pub index_fits : index_size layout.index (subchunks_of layout) < 2 ^ 64

-- the tests of a layout
abbrev pub LayoutRefusals : Layout → Refusals → Refusals
LayoutRefusals layout later =
    length layout.shape.now ≡ length layout.subchunk_shape.now or IncompatibleDimensionality then
    (AllPositive layout.shape.now × AllPositive layout.subchunk_shape.now × Divides layout.subchunk_shape.now layout.shape.now)
    or InvalidSubchunkShape then
    (count_of layout.shape.now < 2 ^ 64 × index_size layout.index (subchunks_of layout) < 2 ^ 64) or TooLarge then
    later

-- the tests of a subset's start and shape
abbrev pub StartRefusals : (start shape : List ℕ) → Refusals → Refusals
StartRefusals start shape later =
    length start ≡ length shape or IncompatibleDimensionality then
    IsSubset start shape or OutOfBounds then
    later

-- the range of the index in an object of this length in bytes
pub record IsIndexRange (layout : Layout) (len : ℕ) (range : Range) : Type 0 where
  pub size : range.size ≡ index_size layout.index (subchunks_of layout)
  pub within : range.size ≤ len
  pub offset : range.offset ≡ (if is_set layout.index 1 then 0 else len - range.size)

-- number i of an index whose numbers are big endian or little endian
abbrev pub number_as : Bool → Bytes → ℕ → ℕ
number_as is_big index i =
    if is_big then from_be_bytes w64 (take 8 (drop (8 * i) index)) else from_le_bytes w64 (take 8 (drop (8 * i) index))

abbrev pub number_at : ℕ → Bytes → ℕ → ℕ
number_at flags index i = number_as (is_set flags 2) index i

-- bytes are an index: as many as it has, and where there is a checksum its bytes are that of the numbers
pub record IsIndex (flags subchunks : ℕ) (index : Bytes) : Type 0 where
  pub size : length index ≡ index_size flags subchunks
  pub checked : is_set flags 4 ≡ true → drop (16 * subchunks) index ≡ to_le_bytes w32 (checksum (take (16 * subchunks) index))

-- the numbers of an index stand in front of a room, and what was behind them there still does
pub record AreIndexNumbers (flags many : ℕ) (index : Bytes) (old new : List ℕ) : Type 0 where
  pub same_length : length new ≡ length old
  pub numbers : (i : ℕ) → i < many → slice_index new i ≡ number_at flags index i
  pub others : (i : ℕ) → many ≤ i → slice_index new i ≡ slice_index old i
