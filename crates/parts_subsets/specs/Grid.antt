-- The grid of subchunks that a shape is cut into, and where each cell lies in it.
use Rattle.std.specs.Prelude.{◌≡◌, ℕ, ◌+◌, ◌*◌, ◌/◌, ◌%◌, List, [], map, slice_index_or}
use Rattle.std.specs.List.{AllZip, range_with_len}
use Rattle.parts_errors.specs.Words.{Elements}
use Rattle.parts_row_major.specs.Numbering.{count_of, number_of, point_of, zip_with}
use Rattle.parts_row_major.specs.Subsets.{Subset}

-- the subchunk shape divides the shape evenly, axis by axis
abbrev pub Divides : List ℕ → List ℕ → Type 0
Divides sub shape = AllZip (λ part axis. axis % part ≡ 0) sub shape

-- how many subchunks a shape has along each axis
abbrev pub grid_of : List ℕ → List ℕ → List ℕ
grid_of shape sub = zip_with ◌/◌ shape sub

-- the subchunk that a coordinate lies in, as a coordinate of the grid
abbrev pub subchunk_of : List ℕ → List ℕ → List ℕ
subchunk_of point sub = zip_with ◌/◌ point sub

-- the place of a coordinate in its subchunk
abbrev pub position_of : List ℕ → List ℕ → List ℕ
position_of point sub = zip_with ◌%◌ point sub

-- the coordinate at a place of a subchunk
abbrev pub joined : List ℕ → List ℕ → List ℕ → List ℕ
joined subchunk sub position = zip_with ◌+◌ (zip_with ◌*◌ subchunk sub) position

-- the number of the subchunk in which the cell with a number lies
unfoldable pub subchunk_number : List ℕ → List ℕ → ℕ → ℕ
subchunk_number shape sub i = number_of (subchunk_of (point_of i shape) sub) (grid_of shape sub)

-- the number of that cell's place in its subchunk
unfoldable pub position_number : List ℕ → List ℕ → ℕ → ℕ
position_number shape sub i = number_of (position_of (point_of i shape) sub) sub

-- the number of the cell at a place of a subchunk
unfoldable pub cell_number : List ℕ → List ℕ → ℕ → ℕ → ℕ
cell_number shape sub k p = number_of (joined (point_of k (grid_of shape sub)) sub (point_of p sub)) shape

-- the subset of the cells of subchunk k of a grid
abbrev pub grid_subset : List ℕ → List ℕ → ℕ → Subset
grid_subset grid sub k = record { start = zip_with ◌*◌ (point_of k grid) sub; shape = sub }

-- the subset of the cells of subchunk k of a shape
abbrev pub subset_of_subchunk : List ℕ → List ℕ → ℕ → Subset
subset_of_subchunk shape sub k = grid_subset (grid_of shape sub) sub k

-- the elements of a subchunk of an array, in row-major order of the subchunk
unfoldable pub subchunk : List ℕ → List ℕ → Elements → ℕ → Elements
subchunk shape sub elements k = map (λ p. slice_index_or elements (cell_number shape sub k p) []) (range_with_len 0 (count_of sub))
