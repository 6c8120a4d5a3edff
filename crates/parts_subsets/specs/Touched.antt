-- The subchunks of a shape that a subset touches.
use Rattle.std.specs.Prelude.{◌≡◌, ◌<◌, ◌+◌, ◌-◌, ◌/◌, ℕ, List, length, slice_index}
use Rattle.parts_row_major.specs.Numbering.{count_of}
use Rattle.parts_row_major.specs.Subsets.{Subset, number_in}
use Rattle.parts_subsets.specs.Grid.{subchunk_number}

-- some point of the subset lies in subchunk k
abbrev pub Touches : (shape sub : List ℕ) → Subset → ℕ → Type 0
Touches shape sub subset k = (q : ℕ) × (q < count_of subset.shape) × (subchunk_number shape sub (number_in subset shape q) ≡ k)

-- ascending, and just those subchunks that the subset touches
pub record AreTouched (shape sub : List ℕ) (subset : Subset) (subchunks : List ℕ) : Type 0 where
  pub rising : (i j : ℕ) → i < j → j < length subchunks → slice_index subchunks i < slice_index subchunks j
  pub touched : (j : ℕ) → j < length subchunks → Touches shape sub subset (slice_index subchunks j)
  pub all : (k : ℕ) → Touches shape sub subset k → (j : ℕ) × (j < length subchunks) × (slice_index subchunks j ≡ k)

-- the subset of the grid that has the subchunks which a subset touches: along each axis from that of the first cell to that of the last
pub record IsTouchedSubset (subset : Subset) (sub : List ℕ) (touched : Subset) : Type 0 where
  pub axes : length touched.start ≡ length subset.start
  pub lengths : length touched.shape ≡ length subset.start
  pub starts : (k : ℕ) → k < length subset.start → slice_index touched.start k ≡ slice_index subset.start k / slice_index sub k
  pub none : (k : ℕ) → k < length subset.start → slice_index subset.shape k ≡ 0 → slice_index touched.shape k ≡ 0
  pub ends : (k : ℕ) → k < length subset.start → 0 < slice_index subset.shape k
      → slice_index touched.start k + slice_index touched.shape k
      ≡ (slice_index subset.start k + (slice_index subset.shape k - 1)) / slice_index sub k + 1

-- a range has a first and a last number, and both lie in one part
abbrev pub IsOneAlong : (first len part : ℕ) → Type 0
IsOneAlong first len part = (0 < len) × ((first + (len - 1)) / part ≡ first / part)
