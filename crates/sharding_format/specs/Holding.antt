-- When a shard holds an array, whatever else stands in it.
use Rattle.std.specs.Prelude.{◌≡◌, ◌<◌, ℕ, List, Some, length}
use Rattle.parts_errors.specs.Words.{CellsOf, Written}
use Rattle.parts_row_major.specs.Numbering.{count_of}
use Rattle.parts_subsets.specs.Grid.{grid_of, subchunk}
use Rattle.sharding_format.specs.Index.{slot_at, numbers_in_index}
use Rattle.sharding_format.specs.Cells.{Layout}
use Rattle.sharding_format.specs.Encoding.{StandsAt}

-- the shard's index gives these numbers, and each subchunk of the array stands where its entry says: nowhere exactly where it
-- is all fill, and else as an encoding in the data part. An encoding holds its array; a shard that holds one may also have
-- bytes between its slices, and slices that share bytes
pub record Holds (inner_written : Written) (index_cells : CellsOf) (l : Layout) (a : List (List ℕ))
    (bytes : List ℕ) : Type 0 where
  pub numbers : List ℕ
  pub told : numbers_in_index index_cells l.location l.index_size bytes ≡ Some numbers
  pub stand : (k : ℕ) → k < count_of (grid_of l.shape l.sub)
      → StandsAt inner_written l bytes (subchunk l.shape l.sub a k) (slot_at (length bytes) numbers k)
