-- Subsets of coordinates, and the numbers of a subset's coordinates in the array that it lies in.
use Rattle.std.specs.Prelude.{◌≡◌, ℕ, ◌+◌, ◌-◌, ◌*◌, ◌^◌, ◌<◌, ◌≤◌, List, map}
use Rattle.std.specs.List.{AllZip, range_with_len}
use Rattle.std.specs.declared.ops.Range.{Range}
use Rattle.parts_row_major.specs.Numbering.{count_of, number_of, point_of, zip_with}

-- a subset: where it starts, and how far it reaches along each axis
pub record Subset : Type 0 where
  pub start : List ℕ
  pub shape : List ℕ

-- the subset of one range of coordinates along each axis
abbrev pub subset_of_ranges : List (Range ℕ) → Subset
subset_of_ranges ranges = record { start = map (λ range. range.start) ranges; shape = map (λ range. range.end - range.start) ranges }

-- as many starts as lengths, and each end fits 64 bits
abbrev pub IsSubset : List ℕ → List ℕ → Type 0
IsSubset start shape = AllZip (λ first len. first + len < 2 ^ 64) start shape

-- where a subset ends along each axis, the end excluded
abbrev pub end_of : Subset → List ℕ
end_of subset = zip_with ◌+◌ subset.start subset.shape

-- the point of a subset with a number among the subset's points, in row-major order
abbrev pub point_in : Subset → ℕ → List ℕ
point_in subset i = zip_with ◌+◌ subset.start (point_of i subset.shape)

-- the points of a subset in row-major order
abbrev pub points_of : Subset → List (List ℕ)
points_of subset = map (point_in subset) (range_with_len 0 (count_of subset.shape))

-- the subset ends within the shape on every axis
abbrev pub LiesIn : Subset → List ℕ → Type 0
LiesIn subset shape = AllZip ◌≤◌ (zip_with ◌+◌ subset.start subset.shape) shape

-- the number in an array's shape of the point of a subset with a number among the subset's points
abbrev pub number_in : Subset → List ℕ → ℕ → ℕ
number_in subset shape i = number_of (point_in subset i) shape

-- the number in an array's shape of each point of a subset, in row-major order of the subset
abbrev pub numbers_in : Subset → List ℕ → List ℕ
numbers_in subset shape = map (number_in subset shape) (range_with_len 0 (count_of subset.shape))

-- the subset lies in a shape whose count fits 64 bits
abbrev pub IsServed : Subset → List ℕ → Type 0
IsServed subset shape = LiesIn subset shape × (count_of shape < 2 ^ 64)

-- so many bytes are an array of the shape, with elements of one size, in which the subset lies
pub record IsTarget (bytes size : ℕ) (shape : List ℕ) (subset : Subset) : Type 0 where
  pub served : IsServed subset shape
  pub some : 0 < size
  pub whole : bytes ≡ count_of shape * size
