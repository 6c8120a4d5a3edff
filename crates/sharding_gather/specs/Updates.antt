-- What is written into an array: elements for the cells of a subset.
use Rattle.std.specs.Prelude.{◌≡◌, ℕ, List, IsSome, length}
use Rattle.parts_errors.specs.Words.{Refusals}
use Rattle.parts_errors.specs.Order.{◌or◌then◌}
use Rattle.parts_arrays.specs.Arrays.{Array}
use Rattle.parts_arrays.specs.Types.{size_of}
use Rattle.parts_subsets.specs.Selections.{Selection, LiesWithin}
use Rattle.parts_arrays.specs.declared.data_type.DataType.{DataType}
use Rattle.parts_errors.specs.declared.error.CodecError.TheVariants.{UnsupportedIndexer, IncompatibleDimensionality, OutOfBounds, WrongElementKind, InvalidNumberOfElements}

-- the tests of elements that are written to the cells that an indexer names: these are a subset, which lies in the shape, and there is an
-- element of the type for each
abbrev pub UpdateRefusals : (shape : List ℕ) → DataType → Selection → Array → Refusals → Refusals
UpdateRefusals shape data_type selection update later =
    IsSome selection.subset or UnsupportedIndexer then
    selection.axes ≡ length shape or IncompatibleDimensionality then
    LiesWithin selection.subset selection.points shape or OutOfBounds then
    update.kind ≡ size_of data_type or WrongElementKind then
    length update.elements ≡ length selection.points or InvalidNumberOfElements then
    later

-- what passes them
pub record IsUpdateOf (shape : List ℕ) (data_type : DataType) (selection : Selection) (update : Array) : Type 0 where
  pub is_subset : IsSome selection.subset
  pub axes : selection.axes ≡ length shape
  pub within : LiesWithin selection.subset selection.points shape
  pub kind : update.kind ≡ size_of data_type
  pub counted : length update.elements ≡ length selection.points
