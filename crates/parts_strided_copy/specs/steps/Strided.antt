-- Subsets of an array, by their rows.
use Rattle.std.specs.Prelude.{ℕ, List}
use Rattle.parts_row_major.specs.Subsets.{Subset}

-- a subset, and the shape of the array that it lies in
pub record SubsetIn : Type 0 where
  pub subset : Subset
  pub around : List ℕ
