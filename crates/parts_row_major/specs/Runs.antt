-- Runs of neighbouring numbers: a first number and how many follow from it.
use Rattle.std.specs.Prelude.{◌≡◌, ◌≢◌, ℕ, ◌+◌, ◌-◌, ◌*◌, ◌/◌, ◌%◌, ◌^◌, ◌<◌, ◌≤◌, List, map, drop, length, slice_index}
use Rattle.std.specs.List.{All, flat_map, range_with_len}
use Rattle.parts_row_major.specs.Numbering.{count_of}
use Rattle.parts_row_major.specs.Subsets.{Subset, IsSubset, number_in, IsServed}
use Rattle.parts_row_major.specs.Pieces.{IsUpdated}

-- the numbers of runs that are laid end to end
abbrev pub runs_end_to_end : List (ℕ × ℕ) → List ℕ
runs_end_to_end runs = flat_map (λ run. range_with_len run.0 run.1) runs

-- the least axis such that a subset spans every later axis of the shape wholly
pub record IsRunAxis (len shape : List ℕ) (axis : ℕ) : Type 0 where
  pub later_spanned : drop (axis + 1) len ≡ drop (axis + 1) shape
  pub least : 0 < axis → slice_index len axis ≢ slice_index shape axis

-- the length of a run: the product of the subset's axes from that axis on
abbrev pub IsRunLength : List ℕ → List ℕ → ℕ → Type 0
IsRunLength len shape run = (axis : ℕ) × IsRunAxis len shape axis × (run ≡ count_of (drop axis len))

-- the runs along the axis before a run's: how many they are, and how far apart they begin
pub record IsRowSet (len shape : List ℕ) (run rows stride : ℕ) : Type 0 where
  pub axis : ℕ
  pub inside : axis ≤ length len
  pub run_axis : IsRunAxis len shape axis
  pub run_is : run ≡ count_of (drop axis len)
  pub stride_is : stride ≡ count_of (drop axis shape)
  pub one : axis ≡ 0 → rows ≡ 1
  pub more : 0 < axis → rows ≡ slice_index len (axis - 1)

-- places are whole rows, each a stride after the one before it
pub record AreRows (position : ℕ → ℕ) (rows stride many : ℕ) : Type 0 where
  pub some : 0 < rows
  pub whole : (sets : ℕ) × (many ≡ sets * rows)
  pub steps : (q r : ℕ) → r < rows → q * rows + r < many → position (q * rows + r) ≡ position (q * rows) + r * stride

-- where a walk over rows stands: the place before the next, and where the next row set begins
pub record IsStepping (position : ℕ → ℕ) (rows stride next turn many last : ℕ) : Type 0 where
  pub are_rows : AreRows position rows stride many
  pub turned : (set : ℕ) × (turn ≡ set * rows)
  pub before : next ≤ turn
  pub within : turn ≤ many
  pub here : (k : ℕ) → next + k < turn → position (next + k) ≡ last + (k + 1) * stride

-- the place of an element of rows of one length, of which each begins a stride after the one before it
abbrev pub row_position : (first stride run : ℕ) → ℕ → ℕ
row_position first stride run j = first + (j / run) * stride + j % run

-- the points of a subset, in row-major order, are sets of such rows
pub record AreSubsetRows (subset : Subset) (shape : List ℕ) (run rows stride sets : ℕ) : Type 0 where
  pub some : 0 < run
  pub some_rows : 0 < rows
  pub all : sets * (rows * run) ≡ count_of subset.shape
  pub fits : count_of subset.shape < 2 ^ 64
  pub set_fits : rows * run < 2 ^ 64
  pub each : (q j : ℕ) → q < sets → j < rows * run
      → number_in subset shape (q * (rows * run) + j) ≡ row_position (number_in subset shape (q * (rows * run))) stride run j

-- a walk over sets of a subset's elements in an array: how many elements each has, how many sets there are, and how many it has passed
pub record SetWalk : Type 0 where
  pub subset : Subset
  pub around : List ℕ
  pub each : ℕ
  pub sets : ℕ
  pub passed : ℕ

-- so many sets of as many elements are those of a subset that lies in a shape
pub record AreSets (subset : Subset) (shape : List ℕ) (each sets : ℕ) : Type 0 where
  pub served : IsServed subset shape
  pub whole : sets * each ≡ count_of subset.shape
  pub some : 0 < each
  pub fits : count_of subset.shape < 2 ^ 64

-- where a walk over sets stands that isn't at its end: at the place of the next, from which on the others are found by steps
pub record IsAtSet (position : ℕ → ℕ) (group stride passed turn sets here : ℕ) : Type 0 where
  pub inside : passed ≤ sets
  pub at : passed < sets → here ≡ position passed
  pub steps : passed < sets → IsStepping position group stride (passed + 1) turn sets here

-- the runs of a subset that are still to come
abbrev pub runs_from : Subset → List ℕ → ℕ → ℕ → ℕ → List (ℕ × ℕ)
runs_from subset shape run next many = map (λ i. (number_in subset shape (i * run), run)) (range_with_len next (many - next))

-- the runs of a subset that lies in a shape, of which some are done
pub record IsRunning (subset : Subset) (shape : List ℕ) (run next many : ℕ) : Type 0 where
  pub well_formed : IsSubset subset.start subset.shape
  pub served : IsServed subset shape
  pub all : many * run ≡ count_of subset.shape
  pub fits : count_of subset.shape < 2 ^ 64
  pub some : 0 < run
  pub done : next ≤ many

-- laid end to end, the runs that are left are the places from `done` on
pub record AreLeft (position : ℕ → ℕ) (total done : ℕ) (runs : List (ℕ × ℕ)) : Type 0 where
  pub stored_slices : runs_end_to_end runs ≡ map position (range_with_len done (total - done))
  pub some : done ≤ total

-- a loop over the runs of a subset: some are left, and the places before them are written
pub record IsPartly (subset : Subset) (shape : List ℕ) (done : ℕ) (runs : List (ℕ × ℕ)) (old update new : ℕ → List ℕ) : Type 0 where
  pub left : AreLeft (number_in subset shape) (count_of subset.shape) done runs
  pub within : All (λ run. run.0 + run.1 ≤ count_of shape) runs
  pub so_far : IsUpdated done (number_in subset shape) old update new
