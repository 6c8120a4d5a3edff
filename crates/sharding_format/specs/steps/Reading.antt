-- The steps of a read of some cells of a shard: its index, the places of each subchunk in which some are asked, and the cells put together.
use Rattle.std.specs.Prelude.{◌≡◌, ℕ, ◌-◌, List, Option, Some, None, map}
use Rattle.parts_errors.specs.Words.{CellsOf}
use Rattle.parts_arrays.specs.Arrays.{Array}
use Rattle.parts_errors.specs.declared.error.CodecError.{CodecError}
use Rattle.codec_traits.specs.Meanings.{Meaning}
use Rattle.sharding_format.specs.Index.{slice_at}
use Rattle.sharding_format.specs.Cells.{indexed_cell}
use Rattle.sharding_format.specs.DecodeRefusals.{RefusesLengths}
use Rattle.sharding_format.specs.ReadRefusals.{cells_of_positions, AnswerRefusals, PositionsRefusals}
use Rattle.sharding_format.specs.declared.location.ShardingIndexLocation.{ShardingIndexLocation}
use Rattle.sharding_format.specs.declared.location.ShardingIndexLocation.TheVariants.{Start, End}
use Rattle.sharding_format.specs.declared.slot.Slot.{Slot}
use Rattle.sharding_format.specs.declared.slot.Slot.TheVariants.{Absent, InRange, Bad}

-- where the index begins in a shard of so many bytes
abbrev pub index_start : ShardingIndexLocation → ℕ → ℕ → ℕ
index_start Start size len = 0
index_start End size len = len - size

-- these are the cells at some places of the subchunk that a slot names
abbrev pub IsReadAt : CellsOf → List ℕ → Slot → List ℕ → Option Array → Type 0
IsReadAt inner_cells bytes Absent positions None = Unit {0}
IsReadAt inner_cells bytes Absent positions (Some a) = ⊥
IsReadAt inner_cells bytes (InRange offset size) positions None = ⊥
IsReadAt inner_cells bytes (InRange offset size) positions (Some a) = cells_of_positions (inner_cells (slice_at offset size bytes))
    positions ≡ map Some a.elements
IsReadAt inner_cells bytes Bad positions o = ⊥

-- the tests of a read of the cells with these row-major numbers of the shard that bytes are, by the numbers of its index
abbrev pub ReadByRefusals : (inner : Meaning) → (shape sub fill bytes index numbers : List ℕ) → CodecError → Type 0
ReadByRefusals inner shape sub fill bytes index numbers =
    PositionsRefusals (AnswerRefusals inner.answerable inner.read_refusals) inner.cells shape sub bytes (Some index) numbers
    (RefusesLengths (map (indexed_cell inner.cells shape sub fill bytes index) numbers))
