-- Where a subset and a subchunk meet.
use Rattle.std.specs.Prelude.{◌≡◌, ◌<◌, ℕ, List}
use Rattle.parts_row_major.specs.Numbering.{count_of}
use Rattle.parts_row_major.specs.Subsets.{Subset, IsSubset, LiesIn, number_in}
use Rattle.parts_subsets.specs.Grid.{cell_number}

-- a part of a subset and of subchunk k, seen from either's start, has the cells that both have
pub record IsSubchunkOverlap (shape sub : List ℕ) (subset : Subset) (k : ℕ) (in_subchunk in_subset : Subset) : Type 0 where
  pub sub_inside : LiesIn in_subchunk sub
  pub subset_inside : LiesIn in_subset subset.shape
  pub sub_well_formed : IsSubset in_subchunk.start in_subchunk.shape
  pub subset_well_formed : IsSubset in_subset.start in_subset.shape
  pub same_shape : in_subchunk.shape ≡ in_subset.shape
  pub one_cell : (r : ℕ) → r < count_of in_subchunk.shape
      → cell_number shape sub k (number_in in_subchunk sub r) ≡ number_in subset shape (number_in in_subset subset.shape r)
  pub met : (p q : ℕ) → p < count_of sub → q < count_of subset.shape → cell_number shape sub k p ≡ number_in subset shape q
      → (r : ℕ) × (r < count_of in_subchunk.shape) × (number_in in_subchunk sub r ≡ p) × (number_in in_subset subset.shape r ≡ q)
