-- Where a subset meets a subchunk, by rows in the array that the subset is read into and in the subchunk.
use Rattle.std.specs.Prelude.{◌≡◌, ◌<◌, ◌+◌, ◌-◌, ℕ, List, length}
use Rattle.parts_row_major.specs.Numbering.{count_of, zip_with}
use Rattle.parts_row_major.specs.Subsets.{Subset, IsSubset, IsServed, LiesIn, number_in}
use Rattle.parts_subsets.specs.Grid.{grid_of, grid_subset}
use Rattle.parts_subsets.specs.Overlaps.{overlap_of, relative_subset}
use Rattle.parts_strided_copy.specs.Paired.{elements_in_rows, from_at, AreRowsWithin, AreRowsOf}
use Rattle.parts_strided_copy.specs.declared.paired.PairedRows.{PairedRows}
use Rattle.sharding_gather.specs.declared.overlap_rows.SubsetInGrid.{SubsetInGrid}
use Rattle.sharding_gather.specs.SubchunkOverlaps.{IsSubchunkOverlap}
use Rattle.sharding_gather.specs.steps.Placings.{shifted_subset}

-- the cells that a subset and a subchunk of a grid both have, as they lie in the shape, in the subchunk, and in an array in which
-- the subset stands at an origin
abbrev pub shared_subset : (start len grid sub : List ℕ) → ℕ → Subset
shared_subset start len grid sub k = overlap_of (record { start = start; shape = len }) (grid_subset grid sub k)

abbrev pub shared_in_subchunk : (start len grid sub : List ℕ) → ℕ → Subset
shared_in_subchunk start len grid sub k = relative_subset (shared_subset start len grid sub k) (grid_subset grid sub k).start

abbrev pub shared_in_array : (start len grid sub origin : List ℕ) → ℕ → Subset
shared_in_array start len grid sub origin k =
    let both = shared_subset start len grid sub k in
    record { start = zip_with ◌+◌ origin (zip_with ◌-◌ both.start start); shape = both.shape }

-- a subset, the grid, a subchunk of it that the subset meets, and an array in which the subset stands at an origin
pub record CanShare (start len grid sub origin around : List ℕ) (k : ℕ) : Type 0 where
  pub well_formed : IsSubset start len
  pub below : k < count_of grid
  pub axes : length start ≡ length sub
  pub grid_axes : length grid ≡ length sub
  pub origin_axes : length origin ≡ length sub
  pub fits : IsSubset (grid_subset grid sub k).start sub
  pub some : 0 < count_of (shared_subset start len grid sub k).shape
  pub in_subchunk : IsServed (shared_in_subchunk start len grid sub k) sub
  pub in_array : IsServed (shared_in_array start len grid sub origin k) around

-- a subset in the grid of the subchunks of a shard's shape
pub record IsInShard (shape sub : List ℕ) (met : SubsetInGrid) : Type 0 where
  pub shape_is : met.shape.now ≡ shape
  pub sub_is : met.sub.now ≡ sub
  pub grid_is : met.grid.now ≡ grid_of shape sub
  pub inside : LiesIn met.subset.now shape

-- the rows of the overlap of a subset and subchunk k, where the subset is read into a subset of an array
pub record AreOverlapRows
    (shape sub : List ℕ) (subset : Subset) (k : ℕ) (within : Subset) (around : List ℕ) (rows : PairedRows) : Type 0 where
  pub in_subchunk : Subset
  pub in_subset : Subset
  pub meets : IsSubchunkOverlap shape sub subset k in_subchunk in_subset
  pub rows_within : AreRowsWithin rows (count_of around)
  pub into : AreRowsOf rows (shifted_subset within in_subset) around
  pub from_below : (r : ℕ) → r < elements_in_rows rows → from_at rows r < count_of sub
  pub from : (r : ℕ) → r < count_of in_subchunk.shape → from_at rows r ≡ number_in in_subchunk sub r
