-- The parts of a subset that lie in a shard each.
use Rattle.std.specs.Prelude.{◌≡◌, ℕ, List, length, slice_index}
use Rattle.parts_errors.specs.Words.{Refusals}
use Rattle.parts_errors.specs.Order.{◌or◌then◌, done}
use Rattle.parts_row_major.specs.Numbering.{count_of, point_of, HasPoint}
use Rattle.parts_row_major.specs.Subsets.{Subset, IsSubset, LiesIn}
use Rattle.parts_subsets.specs.Grid.{grid_of}
use Rattle.parts_subsets.specs.Touched.{AreTouched, IsTouchedSubset}
use Rattle.parts_errors.specs.declared.error.CodecError.TheVariants.{IncompatibleDimensionality, OutOfBounds}
use Rattle.sharding_gather.specs.SubchunkOverlaps.{IsSubchunkOverlap}
use Rattle.sharding_plans.specs.Chunks.{whole_chunks}
use Rattle.array_grid.specs.Shards.{ShardedArray}
use Rattle.array_grid.specs.declared.parts.ShardPart.{ShardPart}

-- a part of a subset in one of the shards in which a cell of the subset lies, of a count of them: the one with a place among
-- these, in ascending order, its coordinates in the grid, and in it the cells that both have; cells are numbered as in the array's shape
-- rounded up to whole shards
pub record IsPartAt (array : ShardedArray) (subset : Subset) (count position : ℕ) (part : ShardPart) : Type 0 where
  pub shards : List ℕ
  pub touched : AreTouched (whole_chunks array.shape array.shard) array.shard subset shards
  pub counted : length shards ≡ count
  pub here : slice_index shards position ≡ part.shard
  pub coordinates : let grid = grid_of (whole_chunks array.shape array.shard) array.shard in
      HasPoint part.shard grid × (part.coordinates.items ≡ point_of part.shard grid)
  pub meets : IsSubchunkOverlap (whole_chunks array.shape array.shard) array.shard subset part.shard part.in_shard part.in_subset

-- a subset meets this number of shards: those in which a cell of it lies
pub record MeetsShards (array : ShardedArray) (subset : Subset) (count : ℕ) : Type 0 where
  pub shards : List ℕ
  pub touched : AreTouched (whole_chunks array.shape array.shard) array.shard subset shards
  pub counted : length shards ≡ count

-- a subset of an array, and in how many shards a cell of it lies
pub record SubsetInArray : Type 0 where
  pub array : ShardedArray
  pub subset : Subset
  pub count : ℕ

-- the subset lies in the array, and the shards that it meets are a subset of the grid, with this count
pub record AreMet (array : ShardedArray) (subset touched : Subset) (count : ℕ) : Type 0 where
  pub well_formed : IsSubset subset.start subset.shape
  pub inside : LiesIn subset array.shape
  pub met : IsTouchedSubset subset array.shard touched
  pub counted : count_of touched.shape ≡ count

-- the tests of a subset of an array
abbrev pub SubsetRefusals : Subset → List ℕ → Refusals
SubsetRefusals subset shape =
    length subset.start ≡ length shape or IncompatibleDimensionality then
    LiesIn subset shape or OutOfBounds then
    done
