-- The laws of numbering and of the grid.
use Rattle.std.specs.Prelude.{◌≡◌, ◌≢◌, ℕ, ◌+◌, ◌<◌, ◌≤◌, List, length, slice_index}
use Rattle.parts_row_major.specs.Numbering.{count_of, IsInside, number_of, point_of}
use Rattle.parts_subsets.specs.Grid.{grid_of, subchunk_of, position_of, joined}
use Rattle.parts_row_major.specs.Subsets.{Subset, number_in}
use Rattle.parts_subsets.specs.Overlaps.{overlap_of}

-- the coordinates inside a shape and the numbers below its count correspond one to one
pub record NumberingLaw (shape : List ℕ) : Type 0 where
  pub number_below : (point : List ℕ) → IsInside point shape → number_of point shape < count_of shape
  pub point_inside : (i : ℕ) → i < count_of shape → IsInside (point_of i shape) shape
  pub point_of_number : (point : List ℕ) → IsInside point shape → point_of (number_of point shape) shape ≡ point
  pub number_of_point : (i : ℕ) → i < count_of shape → number_of (point_of i shape) shape ≡ i

-- the coordinates inside a shape and the pairs of a subchunk and a place correspond one to one
pub record GridLaw (shape sub : List ℕ) : Type 0 where
  pub subchunk_inside : (point : List ℕ) → IsInside point shape → IsInside (subchunk_of point sub) (grid_of shape sub)
  pub position_inside : (point : List ℕ) → IsInside point shape → IsInside (position_of point sub) sub
  pub joined_parts : (point : List ℕ) → IsInside point shape → joined (subchunk_of point sub) sub (position_of point sub) ≡ point
  pub joined_inside : (subchunk position : List ℕ) → IsInside subchunk (grid_of shape sub) → IsInside position sub
      → IsInside (joined subchunk sub position) shape
  pub subchunk_joined : (subchunk position : List ℕ) → IsInside subchunk (grid_of shape sub) → IsInside position sub
      → subchunk_of (joined subchunk sub position) sub ≡ subchunk
  pub position_joined : (subchunk position : List ℕ) → IsInside subchunk (grid_of shape sub) → IsInside position sub
      → position_of (joined subchunk sub position) sub ≡ position

-- along an axis, a point's number is one of the subset's
abbrev pub IsOnAxis : Subset → List ℕ → ℕ → Type 0
IsOnAxis subset point axis =
    (slice_index subset.start axis ≤ slice_index point axis)
    × (slice_index point axis < slice_index subset.start axis + slice_index subset.shape axis)

-- a point lies in a subset: it has as many numbers, each one of the subset's along its axis
abbrev pub IsInSubset : Subset → List ℕ → Type 0
IsInSubset subset point = (length point ≡ length subset.start) × ((axis : ℕ) → axis < length point → IsOnAxis subset point axis)

-- no place of a subset has the number
abbrev pub IsElsewhere : Subset → List ℕ → ℕ → Type 0
IsElsewhere subset shape i = (k : ℕ) → k < count_of subset.shape → number_in subset shape k ≢ i

-- the points of a shape at no place of a subset are those that the subset misses on some axis
pub record SubsetLaw (subset : Subset) (shape : List ℕ) : Type 0 where
  pub missed : (point : List ℕ) → IsInside point shape → IsElsewhere subset shape (number_of point shape)
      → (axis : ℕ) × (axis < length shape) × ¬ IsOnAxis subset point axis
  pub elsewhere : (point : List ℕ) (axis : ℕ) → IsInside point shape → axis < length shape → ¬ IsOnAxis subset point axis
      → IsElsewhere subset shape (number_of point shape)
  pub position : (point : List ℕ) → IsInside point shape → ((axis : ℕ) → axis < length shape → IsOnAxis subset point axis)
      → (k : ℕ) × (k < count_of subset.shape) × (number_in subset shape k ≡ number_of point shape)

-- a point lies in the overlap of two subsets exactly where it lies in both
pub record OverlapLaw (subset other : Subset) : Type 0 where
  pub in_both : (point : List ℕ) → IsInSubset (overlap_of subset other) point → IsInSubset subset point × IsInSubset other point
  pub in_overlap : (point : List ℕ) → IsInSubset subset point → IsInSubset other point → IsInSubset (overlap_of subset other) point
