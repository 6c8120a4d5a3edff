-- The cells of decoded subchunks put together, and the requested cells, from what was read of each subchunk.
use Rattle.std.specs.Prelude.{◌≡◌, ◌<◌, ℕ, List, Option, Some, None, map, length, replicate, slice_index_or}
use Rattle.std.specs.List.{sum_by, range_with_len}
use Rattle.parts_errors.specs.Words.{Bytes, Elements}
use Rattle.parts_row_major.specs.Numbering.{count_of}
use Rattle.parts_subsets.specs.Grid.{Divides, grid_of}
use Rattle.parts_arrays.specs.Arrays.{Array}
use Rattle.parts_arrays.specs.declared.data_type.DataTypeSize.{DataTypeSize}
use Rattle.sharding_format.specs.steps.Decoding.{AreChunks, element_at, element_in, IsChunkOf}
use Rattle.sharding_gather.specs.steps.Grouping.{standing_at}
use Rattle.sharding_gather.specs.declared.grouping.Grouping.{Grouping}
use Rattle.sharding_gather.specs.declared.laying.DecodedShard.{DecodedShard}

-- the element of the requested cell with a place among the requested ones
abbrev pub element_read : Grouping → List (Option Array) → List ℕ → ℕ → List ℕ
element_read groups parts fill i = element_at fill (slice_index_or parts (standing_at groups i).group None) (standing_at groups i).rank

-- of each requested cell's subchunk, if it is there, an element of this kind was read at the cell's rank
pub record AreRead (kind : DataTypeSize) (groups : Grouping) (parts : List (Option Array)) : Type 0 where
  pub below : (i : ℕ) → i < length groups.standings.items → (standing_at groups i).group < length parts
  pub each : (i : ℕ) → i < length groups.standings.items
      → IsChunkOf kind (standing_at groups i).rank (slice_index_or parts (standing_at groups i).group None)

-- how many bytes the elements of the first n requested cells have together
abbrev pub bytes_read : Grouping → List (Option Array) → List ℕ → ℕ → ℕ
bytes_read groups parts fill n = sum_by (λ i. length (element_read groups parts fill i)) (range_with_len 0 n)

-- the elements of a decoded subchunk of so many places: fill values where it is absent
abbrev pub elements_in : Bytes → ℕ → Option Array → Elements
elements_in fill positions None = replicate positions fill
elements_in fill positions (Some a) = a.elements

-- how many elements of a decoded subchunk of so many places are there
abbrev pub positions_there : ℕ → Option Array → ℕ
positions_there positions None = 0
positions_there positions (Some a) = positions

-- the subchunks make up the shard, each with elements of one kind for its cells; the cells of both are counted
pub record CanBeGathered (kind : DataTypeSize) (shard : DecodedShard) : Type 0 where
  pub subchunks : AreChunks kind shard.sub.now (count_of (grid_of shard.shape.now shard.sub.now)) shard.subchunks.now
  pub cells : shard.cells ≡ count_of shard.shape.now
  pub positions : shard.positions ≡ count_of shard.sub.now
  pub divides : Divides shard.sub.now shard.shape.now

-- the elements of the shard
abbrev pub elements_of : DecodedShard → Elements
elements_of shard =
    map (element_in shard.subchunks.now shard.fill.now shard.shape.now shard.sub.now) (range_with_len 0 (count_of shard.shape.now))
