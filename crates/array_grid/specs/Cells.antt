-- The cells of a subset of an array, put together of its parts.
use Rattle.std.specs.Prelude.{◌≡◌, ◌<◌, ◌*◌, ◌^◌, ℕ, List, [], Some, length, map, slice_index_or}
use Rattle.parts_errors.specs.Words.{Bytes, CellList, Elements, Refusals}
use Rattle.parts_errors.specs.Order.{◌or◌then◌, done}
use Rattle.parts_row_major.specs.Numbering.{count_of}
use Rattle.parts_row_major.specs.Subsets.{Subset, LiesIn, number_in, points_of}
use Rattle.parts_row_major.specs.Pieces.{piece, IsUpdated}
use Rattle.parts_arrays.specs.Arrays.{Array}
use Rattle.codec_traits.specs.Reads.{cells_at}
use Rattle.parts_arrays.specs.declared.data_type.DataTypeSize.TheVariants.{Fixed}
use Rattle.parts_errors.specs.declared.error.CodecError.TheVariants.{BadFillValue, TooLarge, WrongElementKind, InvalidNumberOfElements}
use Rattle.parts_errors.specs.declared.error.CodecError.TheVariants.{IncompatibleDimensionality, OutOfBounds}

-- the cells of a subset in row-major order: their bytes, how many a cell has, and the shape of the subset
pub record CellsOfSubset : Type 0 where
  pub bytes : List ℕ
  pub element_size : ℕ
  pub shape : List ℕ

-- bytes of each cell of a shape
pub record AreWhole (bytes : List ℕ) (size : ℕ) (shape : List ℕ) : Type 0 where
  pub some : 0 < size
  pub counted : count_of shape < 2 ^ 64
  pub whole : length bytes ≡ count_of shape * size

-- each cell of a subset of this shape is the fill value
pub record AreFilled (shape : List ℕ) (fill : Bytes) (cells : CellsOfSubset) : Type 0 where
  pub same_shape : cells.shape ≡ shape
  pub same_size : cells.element_size ≡ length fill
  pub each : (i : ℕ) → i < count_of shape → piece (length fill) cells.bytes i ≡ fill

-- the tests of cells that are to be made of a fill value
abbrev pub FillRefusals : List ℕ → Bytes → Refusals
FillRefusals shape fill =
    0 < length fill or BadFillValue then
    count_of shape < 2 ^ 64 or TooLarge then
    count_of shape * length fill < 2 ^ 64 or TooLarge then
    done

-- the tests of where a part lies in a subset of this shape
abbrev pub PartRefusals : List ℕ → Subset → Refusals → Refusals
PartRefusals shape in_subset later =
    length in_subset.start ≡ length shape or IncompatibleDimensionality then
    LiesIn in_subset shape or OutOfBounds then
    later

-- the tests of a part that is to be put into a subset of this shape, whose cells have this size
abbrev pub PutRefusals : ℕ → List ℕ → Subset → Array → Refusals
PutRefusals size shape in_subset part = PartRefusals shape in_subset (
    part.kind ≡ Fixed size or WrongElementKind then
    count_of in_subset.shape ≡ length part.elements or InvalidNumberOfElements then
    done)

-- the cells of a part of an array are all there, and stand where the part lies in a subset of a shape, whose cells have bytes of a size;
-- all other cells of the subset are as they were
pub record IsPartDecoded
    (cells : CellList) (stored_shape : List ℕ) (in_stored in_subset : Subset) (size : ℕ) (shape old new : List ℕ) : Type 0 where
  pub elements : Elements
  pub there : cells_at cells stored_shape (points_of in_stored) ≡ map Some elements
  pub written : IsUpdated (count_of in_subset.shape) (number_in in_subset shape) (piece size old) (λ k. slice_index_or elements k [])
      (piece size new)
