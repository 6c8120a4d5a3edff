-- What an indexer asks of an array: coordinates in an order, duplicates kept.
use Rattle.std.specs.Prelude.{◌≡◌, ℕ, ◌^◌, ◌<◌, Bool, ◌==◌, List, Option, Some, None, IfSome, length}
use Rattle.std.specs.List.{All}
use Rattle.std.specs.Ordering.{on, eq_of_both}
use Rattle.std.specs.Cmp.Lexicographic.{pointwise}
use Rattle.parts_errors.specs.Words.{Refusals}
use Rattle.parts_errors.specs.Order.{◌or◌then◌}
use Rattle.parts_row_major.specs.Numbering.{IsInside}
use Rattle.parts_row_major.specs.Subsets.{Subset, LiesIn, points_of}
use Rattle.parts_row_major.specs.Pieces.{pieces}
use Rattle.parts_errors.specs.declared.error.CodecError.TheVariants.{TooLarge, IncompatibleDimensionality, OutOfBounds}

-- a list of coordinates, and how many numbers each has
pub record Points : Type 0 where
  pub axes : ℕ
  pub points : List (List ℕ)

-- the coordinates whose numbers stand one after the other
abbrev pub points_from : ℕ → ℕ → List ℕ → Points
points_from axes count flat = record { axes = axes; points = pieces axes count flat }

-- whether two lists have as many numbers in each coordinate, and the same coordinates in the same order
abbrev pub same_points : Points → Points → Bool
same_points = eq_of_both (on (λ list. list.axes) ◌==◌) (on (λ list. list.points) (pointwise (pointwise ◌==◌)))

-- what is asked: coordinates in their order, how many numbers each has, and the subset that they are the points of, where they are
-- given as one
pub record Selection : Type 0 where
  pub axes : ℕ
  pub subset : Option Subset
  pub points : List (List ℕ)

-- the selection of a subset: its points in row-major order
abbrev pub subset_selection : Subset → Selection
subset_selection subset = record { axes = length subset.start; subset = Some subset; points = points_of subset }

-- where it is given as a subset, what is asked is that subset's points
abbrev pub MatchesSubset : Selection → Type 0
MatchesSubset selection = IfSome selection.subset (λ subset. selection ≡ subset_selection subset)

-- the selection of listed coordinates
abbrev pub listed_selection : Points → Selection
listed_selection list = record { axes = list.axes; subset = None; points = list.points }

-- what is asked lies in a shape: a subset ends within it on every axis, also where it is empty; of listed coordinates each is inside
abbrev pub LiesWithin : Option Subset → List (List ℕ) → List ℕ → Type 0
LiesWithin None points shape = All (λ point. IsInside point shape) points
LiesWithin (Some subset) points shape = LiesIn subset shape

-- what can be asked of an array of a shape
pub record IsSelectionOf (shape : List ℕ) (selection : Selection) : Type 0 where
  pub axes : selection.axes ≡ length shape
  pub within : LiesWithin selection.subset selection.points shape
  pub counted : length selection.points < 2 ^ 64

-- the tests of what is asked
abbrev pub SelectionRefusals : List ℕ → Selection → Refusals → Refusals
SelectionRefusals shape selection later =
    selection.axes ≡ length shape or IncompatibleDimensionality then
    LiesWithin selection.subset selection.points shape or OutOfBounds then
    length selection.points < 2 ^ 64 or TooLarge then
    later
