-- The shards that an array is cut into.
use Rattle.std.specs.Prelude.{◌≡◌, ◌<◌, ◌^◌, ℕ, List, length}
use Rattle.parts_errors.specs.Words.{Refusals}
use Rattle.parts_errors.specs.Order.{◌or◌then◌, done}
use Rattle.parts_row_major.specs.Numbering.{AllPositive, count_of}
use Rattle.parts_subsets.specs.Grid.{Divides, grid_of}
use Rattle.parts_errors.specs.declared.error.CodecError.TheVariants.{TooLarge}
use Rattle.sharding_plans.specs.Chunks.{whole_chunks, AxesRefusals}

-- an array whose chunks are shards: its shape, and that of a shard
pub record ShardedArray : Type 0 where
  pub shape : List ℕ
  pub shard : List ℕ

-- a shape rounded up to whole shards, the grid of the shards, and how many there are: none where a shape has no cell
pub record IsSharded (shape shard whole grid : List ℕ) (shards : ℕ) : Type 0 where
  pub same_axes : length shape ≡ length shard
  pub some : AllPositive shard
  pub rounded : whole ≡ whole_chunks shape shard
  pub divided : Divides shard whole
  pub fits : count_of whole < 2 ^ 64
  pub cut : grid ≡ grid_of whole shard
  pub counted : AllPositive shape → shards ≡ count_of grid
  pub none : ¬ AllPositive shape → shards ≡ 0

-- the tests of an array that is cut into shards
abbrev pub ShardingRefusals : List ℕ → List ℕ → Refusals
ShardingRefusals shape shard =
    AxesRefusals shape shard (count_of (whole_chunks shape shard) < 2 ^ 64 or TooLarge then done)
