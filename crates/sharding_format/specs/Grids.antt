-- The calls on the grid of a shard: their tests, in their order.
use Rattle.std.specs.Prelude.{◌≡◌, ◌<◌, ◌^◌, ℕ, List, length}
use Rattle.parts_errors.specs.Order.{◌or◌then◌, done}
use Rattle.parts_row_major.specs.Numbering.{count_of}
use Rattle.parts_row_major.specs.Subsets.{IsSubset}
use Rattle.parts_subsets.specs.Grid.{Divides, grid_of, grid_subset}
use Rattle.parts_errors.specs.declared.error.CodecError.{CodecError}
use Rattle.parts_errors.specs.declared.error.CodecError.TheVariants.{IncompatibleDimensionality, InvalidSubchunkShape, TooLarge}

-- the tests of a shard shape and a subchunk shape
abbrev pub GridRefusals : List ℕ → List ℕ → CodecError → Type 0
GridRefusals shape sub =
    length shape ≡ length sub or IncompatibleDimensionality then
    Divides sub shape or InvalidSubchunkShape then
    done

-- every end of the subset of subchunk k, where the grid has it, fits 64 bits
abbrev pub EndsFit : List ℕ → List ℕ → ℕ → Type 0
EndsFit grid sub k = k < count_of grid → IsSubset (grid_subset grid sub k).start sub

-- the tests of a subchunk's number
abbrev pub SubchunkSubsetRefusals : List ℕ → List ℕ → ℕ → CodecError → Type 0
SubchunkSubsetRefusals grid sub k =
    length grid ≡ length sub or IncompatibleDimensionality then
    count_of grid < 2 ^ 64 or TooLarge then
    EndsFit grid sub k or TooLarge then
    done

-- what the tests of the number of subchunks find
pub record IsCut (shape sub : List ℕ) : Type 0 where
  pub same_axes : length shape ≡ length sub
  pub divides : Divides sub shape
  pub counted : count_of (grid_of shape sub) < 2 ^ 64

-- the tests of the number of subchunks
abbrev pub ConcurrencyRefusals : List ℕ → List ℕ → CodecError → Type 0
ConcurrencyRefusals shape sub =
    length shape ≡ length sub or IncompatibleDimensionality then
    Divides sub shape or InvalidSubchunkShape then
    count_of (grid_of shape sub) < 2 ^ 64 or TooLarge then
    done
