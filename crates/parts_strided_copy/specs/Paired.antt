-- Elements that lie in as many rows of two arrays.
use Rattle.std.specs.Prelude.{◌≡◌, ℕ, ◌+◌, ◌*◌, ◌/◌, ◌%◌, ◌<◌, List, [], ◌∷◌}
use Rattle.parts_row_major.specs.Numbering.{count_of}
use Rattle.parts_row_major.specs.Subsets.{Subset, number_in}
use Rattle.parts_strided_copy.specs.declared.paired.RowStep.{RowStep}
use Rattle.parts_strided_copy.specs.declared.paired.AxisStart.{AxisStart}
use Rattle.parts_strided_copy.specs.declared.paired.PairedRows.{PairedRows}

-- how many rows there are along some axes together
abbrev pub rows_along : List RowStep → ℕ
rows_along [] = 1
rows_along (step ∷ more) = step.rows * rows_along more

-- how far a row begins behind the first, by its number: as many steps along each axis as its coordinate says, the innermost axis first
abbrev pub steps_to : (RowStep → ℕ) → List RowStep → ℕ → ℕ
steps_to stride [] row = 0
steps_to stride (step ∷ more) row = (row % step.rows) * stride step + steps_to stride more (row / step.rows)

-- how far an element lies behind the first, by its number: its row, and its place there
abbrev pub element_along : (RowStep → ℕ) → (run : ℕ) → List RowStep → ℕ → ℕ
element_along stride run steps k = k % run + steps_to stride steps (k / run)

-- the steps of rows, and how many elements they have
abbrev pub steps_of : PairedRows → List RowStep
steps_of rows = rows.first ∷ rows.others.items

abbrev pub elements_in_rows : PairedRows → ℕ
elements_in_rows rows = rows.run * rows_along (steps_of rows)

-- where the element with a number lies in either array
abbrev pub into_at : PairedRows → ℕ → ℕ
into_at rows k = rows.into + element_along (λ step. step.into) rows.run (steps_of rows) k

abbrev pub from_at : PairedRows → ℕ → ℕ
from_at rows k = rows.from + element_along (λ step. step.from) rows.run (steps_of rows) k

-- rows with an element at least, whose sets are counted; one row alone has no sets
pub record ArePairedRows (rows : PairedRows) : Type 0 where
  pub some : 0 < elements_in_rows rows
  pub counted : rows.sets ≡ rows_along rows.others.items
  pub alone : rows.first.rows ≡ 1 → rows.others.items ≡ []

-- the rows lie within as many places of the one array, no two elements at one of them
pub record AreRowsWithin (rows : PairedRows) (count : ℕ) : Type 0 where
  pub are_rows : ArePairedRows rows
  pub inside : (k : ℕ) → k < elements_in_rows rows → into_at rows k < count
  pub apart : (i k : ℕ) → i < elements_in_rows rows → k < elements_in_rows rows → into_at rows i ≡ into_at rows k → i ≡ k

-- the rows lie in the one array where the points of a subset do, in row-major order of the subset
pub record AreRowsOf (rows : PairedRows) (subset : Subset) (shape : List ℕ) : Type 0 where
  pub counted : elements_in_rows rows ≡ count_of subset.shape
  pub at : (k : ℕ) → k < count_of subset.shape → into_at rows k ≡ number_in subset shape k

-- all elements of some rows, as many times as an axis outside of theirs is long
pub record AreWidened (old new : PairedRows) (len : ℕ) (into from : AxisStart) : Type 0 where
  pub are_rows : ArePairedRows new
  pub counted : elements_in_rows new ≡ len * elements_in_rows old
  pub into_first : new.into ≡ old.into + into.start * into.stride
  pub from_first : new.from ≡ old.from + from.start * from.stride
  pub into_along : (k : ℕ) → k < len * elements_in_rows old → element_along (λ step. step.into) new.run (steps_of new) k
      ≡ (k / elements_in_rows old) * into.stride + element_along (λ step. step.into) old.run (steps_of old) (k % elements_in_rows old)
  pub from_along : (k : ℕ) → k < len * elements_in_rows old → element_along (λ step. step.from) new.run (steps_of new) k
      ≡ (k / elements_in_rows old) * from.stride + element_along (λ step. step.from) old.run (steps_of old) (k % elements_in_rows old)
