-- What the bytes of a shard stand for.
use Rattle.std.specs.Prelude.{ℕ, List, Option, Some, None, map, length, slice_index_or}
use Rattle.std.specs.List.{range_with_len}
use Rattle.parts_errors.specs.Words.{CellList, CellsOf}
use Rattle.parts_row_major.specs.Numbering.{count_of}
use Rattle.parts_subsets.specs.Grid.{subchunk_number, position_number}
use Rattle.sharding_format.specs.Index.{slot_at, slice_at, numbers_in_index}
use Rattle.sharding_format.specs.declared.location.ShardingIndexLocation.{ShardingIndexLocation}
use Rattle.sharding_format.specs.declared.order.SubchunkWriteOrder.{SubchunkWriteOrder}
use Rattle.sharding_format.specs.declared.slot.Slot.{Slot}
use Rattle.sharding_format.specs.declared.slot.Slot.TheVariants.{Absent, InRange, Bad}

-- how a shard is laid out: its shape, that of its subchunks, the fill value, where the index stands and how many bytes it
-- has, and in which order the subchunks are written
pub record Layout : Type 0 where
  pub shape : List ℕ
  pub sub : List ℕ
  pub fill : List ℕ
  pub location : ShardingIndexLocation
  pub index_size : ℕ
  pub order : SubchunkWriteOrder

-- the cell at a place of the subchunk that a slot names: the fill value where it is absent, what the inner codec reads in
-- the named slice where it is in range, and no cell where the entry is bad; `inner_cells` says what bytes stand for in the
-- inner codec
abbrev pub cell_in : CellsOf → List ℕ → List ℕ → Slot → ℕ → Option (List ℕ)
cell_in inner_cells fill bytes Absent position = Some fill
cell_in inner_cells fill bytes (InRange offset size) position = slice_index_or (inner_cells (slice_at offset size bytes)) position None
cell_in inner_cells fill bytes Bad position = None

-- cell i of the shard that bytes are, by the numbers of its index
abbrev pub indexed_cell : CellsOf → (shape sub fill bytes numbers : List ℕ) → ℕ → Option (List ℕ)
indexed_cell inner_cells shape sub fill bytes numbers i =
    cell_in inner_cells fill bytes (slot_at (length bytes) numbers (subchunk_number shape sub i)) (position_number shape sub i)

-- the same; no cell where there is no index
abbrev pub cell_by : CellsOf → Layout → List ℕ → Option (List ℕ) → ℕ → Option (List ℕ)
cell_by inner_cells l bytes None i = None
cell_by inner_cells l bytes (Some numbers) i = indexed_cell inner_cells l.shape l.sub l.fill bytes numbers i

-- the cells of the shard, in row-major order
unfoldable pub shard_cells : CellsOf → CellsOf → Layout → List ℕ → CellList
shard_cells inner_cells index_cells l bytes =
    map (cell_by inner_cells l bytes (numbers_in_index index_cells l.location l.index_size bytes)) (range_with_len 0 (count_of l.shape))
