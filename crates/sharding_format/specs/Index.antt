-- The index of a shard (Zarr V3 codec `sharding_indexed`, "Binary shard format"): an entry of an offset and a size, in bytes,
-- for each subchunk in row-major order.
use Rattle.std.specs.Prelude.{ℕ, ◌+◌, ◌-◌, ◌*◌, ◌^◌, ◌&&◌, ◌||◌, ◌==◌, nat_le, if◌then◌else◌, List, [], ◌∷◌, ◌++◌, Option, None, length, map, take, drop, replicate, slice_index}
use Rattle.std.specs.Option.{option_map}
use Rattle.std.specs.Int.{from_le_bytes, to_le_bytes, w64}
use Rattle.parts_errors.specs.Words.{CellList, CellsOf}
use Rattle.parts_arrays.specs.ArraySpec.{ArraySpec, array_spec}
use Rattle.parts_arrays.specs.declared.data_type.DataType.TheVariants.{UInt64}
use Rattle.codec_traits.specs.Cells.{all_there}
use Rattle.sharding_format.specs.declared.location.ShardingIndexLocation.{ShardingIndexLocation}
use Rattle.sharding_format.specs.declared.location.ShardingIndexLocation.TheVariants.{Start, End}
use Rattle.sharding_format.specs.declared.slot.Slot.{Slot}
use Rattle.sharding_format.specs.declared.slot.Slot.TheVariants.{Absent, InRange, Bad}

-- both numbers of an entry are this where the subchunk isn't stored
abbrev pub absent_number : ℕ
absent_number = 2 ^ 64 - 1

-- what an entry says of a shard of so many bytes: the subchunk is absent, or a slice that ends within the shard; every other
-- pair is bad
abbrev pub slot_of_entry : ℕ → ℕ → ℕ → Slot
slot_of_entry len offset size =
    if (offset == absent_number) && (size == absent_number) then Absent
    else (if (offset == absent_number) || (size == absent_number) then Bad
    else (if nat_le (offset + size) len then InRange offset size else Bad))

-- what the numbers of an index say of subchunk k
unfoldable pub slot_at : ℕ → List ℕ → ℕ → Slot
slot_at len numbers k = slot_of_entry len (slice_index numbers (2 * k)) (slice_index numbers (2 * k + 1))

-- the bytes that a slot names
abbrev pub slice_at : ℕ → ℕ → List ℕ → List ℕ
slice_at offset size bytes = take size (drop offset bytes)

-- the shape of the index: the grid, and one more axis for offset and size
abbrev pub index_shape : List ℕ → List ℕ
index_shape grid = grid ++ 2 ∷ []

-- what the index codec is asked to serve: 64-bit numbers, of which the absent one is the fill value
abbrev pub index_spec : List ℕ → ArraySpec
index_spec grid = array_spec (index_shape grid) UInt64 (replicate 8 255)

-- the bytes of the index, which are the first or the last of the shard
abbrev pub index_part : ShardingIndexLocation → ℕ → List ℕ → List ℕ
index_part Start size bytes = take size bytes
index_part End size bytes = drop (length bytes - size) bytes

-- where the data part begins, and where it ends
abbrev pub data_start : ShardingIndexLocation → ℕ → ℕ
data_start Start size = size
data_start End size = 0

abbrev pub data_end : ShardingIndexLocation → ℕ → ℕ → ℕ
data_end Start size len = len
data_end End size len = len - size

-- an element of the index as a number, and a number as an element
abbrev pub number_of_element : List ℕ → ℕ
number_of_element e = from_le_bytes w64 e

abbrev pub element_of_number : ℕ → List ℕ
element_of_number n = to_le_bytes w64 n

-- the numbers that the cells of an index are, where all are there
abbrev pub numbers_of_cells : CellList → Option (List ℕ)
numbers_of_cells cells = option_map (map number_of_element) (all_there cells)

-- the numbers of the index, where there is one; `index_cells` says what bytes stand for in the index codec
unfoldable pub numbers_in_index : CellsOf → ShardingIndexLocation → ℕ → List ℕ → Option (List ℕ)
numbers_in_index index_cells location size bytes =
    if nat_le size (length bytes)
    then numbers_of_cells (index_cells (index_part location size bytes))
    else None
