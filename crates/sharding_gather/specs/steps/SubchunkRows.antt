-- The subchunks of an array, by the rows of the first of them.
use Rattle.std.specs.Prelude.{◌≡◌, ◌<◌, ◌^◌, ℕ, List}
use Rattle.parts_row_major.specs.Numbering.{AllPositive, count_of}
use Rattle.parts_subsets.specs.Grid.{Divides, grid_of, subset_of_subchunk}
use Rattle.parts_strided_copy.specs.steps.Strided.{SubsetIn}

-- the shape of an array, and that of its subchunks
pub record SubchunksIn : Type 0 where
  pub shape : List ℕ
  pub sub : List ℕ

-- the first subchunk, and the grid in which as many lie
pub record AreSubchunkRows (shape sub grid : List ℕ) (many : ℕ) (first : SubsetIn) : Type 0 where
  pub divides : Divides sub shape
  pub fits : count_of shape < 2 ^ 64
  pub positive : AllPositive shape
  pub some : 0 < count_of sub
  pub grid_is : grid ≡ grid_of shape sub
  pub counted : many ≡ count_of grid
  pub first_is : first ≡ record { subset = subset_of_subchunk shape sub 0; around = shape }
