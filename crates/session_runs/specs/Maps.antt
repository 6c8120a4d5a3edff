-- The cells of a shard as a plain map.
use Rattle.std.specs.Prelude.{ℕ, List, [], map, slice_index_or}
use Rattle.std.specs.List.{range_with_len}
use Rattle.parts_errors.specs.Words.{Bytes, Elements}
use Rattle.parts_row_major.specs.Numbering.{count_of, number_of}
use Rattle.parts_row_major.specs.Subsets.{Subset, number_in}
use Rattle.parts_row_major.specs.Pieces.{IsUpdated}
use Rattle.parts_arrays.specs.ArraySpec.{ArraySpec}

-- an element for each cell, by the cell's number in row-major order
abbrev pub CellMap : Type 0
CellMap = ℕ → Bytes

-- the fill value in every cell
abbrev pub filled : ArraySpec → CellMap
filled g = λ i. g.fill

-- the new map has an update's elements at the cells of a subset, in row-major order of the subset, and is the old map everywhere else
abbrev pub IsOverridden : ArraySpec → Subset → (update : Elements) → (old new : CellMap) → Type 0
IsOverridden g subset update old new =
    IsUpdated (count_of subset.shape) (number_in subset g.shape) old (λ q. slice_index_or update q []) new

-- the elements at some coordinates, in their order, duplicates kept
abbrev pub elements_at : ArraySpec → CellMap → List (List ℕ) → Elements
elements_at g m points = map (λ point. m (number_of point g.shape)) points

-- the elements of all cells, in row-major order
abbrev pub elements_of : ArraySpec → CellMap → Elements
elements_of g m = map m (range_with_len 0 (count_of g.shape))
