-- Subchunks of arrays.
use Rattle.std.proofs.Common.{◌≡◌, ℕ, List}
use Rattle.std.proofs.lemmas.Simd.{map-map}
use Rattle.std.specs.List.{range_with_len}
use Rattle.parts_row_major.specs.Numbering.{count_of}
use Rattle.parts_row_major.specs.Subsets.{number_in}
use Rattle.parts_subsets.specs.Grid.{cell_number, subset_of_subchunk, subchunk}
use Rattle.parts_arrays.specs.Arrays.{Array, element_of, extracted}

-- the elements in the subset of a subchunk are the subchunk's
pub extracted-subset_of_subchunk : (array : Array) (shape sub : List ℕ) (k : ℕ) → (extracted array (subset_of_subchunk shape sub k) shape).elements ≡ subchunk shape sub array.elements k
unfolding subchunk cell_number
extracted-subset_of_subchunk array shape sub k =
    map-map (element_of array) (number_in (subset_of_subchunk shape sub k) shape) (range_with_len 0 (count_of sub))
