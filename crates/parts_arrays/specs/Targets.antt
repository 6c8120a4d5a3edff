-- What is written into a subset of borrowed bytes.
use Rattle.std.specs.Prelude.{◌≡◌, ℕ, List, length}
use Rattle.std.specs.Borrow.{MutBor}
use Rattle.parts_errors.specs.Words.{Bytes, Refusals}
use Rattle.parts_errors.specs.Order.{◌or◌then◌}
use Rattle.parts_row_major.specs.Numbering.{count_of}
use Rattle.parts_row_major.specs.Subsets.{Subset, number_in}
use Rattle.parts_row_major.specs.Pieces.{piece, IsUpdated}
use Rattle.parts_arrays.specs.declared.data_type.DataTypeSize.{DataTypeSize}
use Rattle.parts_arrays.specs.declared.data_type.DataTypeSize.TheVariants.{Fixed}
use Rattle.parts_errors.specs.declared.error.CodecError.TheVariants.{InvalidNumberOfElements, WrongElementKind}
use Rattle.parts_arrays.specs.declared.target.FixedTarget.{FixedTarget}

-- what a target is over: the borrowed bytes, how many of them an element has, the shape of the array that they are, and the subset of it
-- that is written
abbrev pub target_bytes : FixedTarget → MutBor (List ℕ)
target_bytes target = target.bytes

abbrev pub target_element_size : FixedTarget → ℕ
target_element_size target = target.element_size

abbrev pub target_shape : FixedTarget → List ℕ
target_shape target = target.shape.now

abbrev pub target_subset : FixedTarget → Subset
target_subset target = target.subset.now

-- a target's subset was overwritten by elements in row-major order of the subset; all other elements of the same borrowed bytes stay
pub record IsWritten (old new : FixedTarget) (element : ℕ → Bytes) : Type 0 where
  pub reference : new.bytes.ghost_name ≡ old.bytes.ghost_name
  pub element_size : new.element_size ≡ old.element_size
  pub shape : new.shape.now ≡ old.shape.now
  pub subset : new.subset.now ≡ old.subset.now
  pub length : length new.bytes.now ≡ length old.bytes.now
  pub elements : IsUpdated (count_of old.subset.now.shape) (number_in old.subset.now old.shape.now)
      (piece old.element_size old.bytes.now) element (piece old.element_size new.bytes.now)

-- a subset of a target's array was overwritten by elements in row-major order of this subset; all other elements of the same borrowed
-- bytes stay
pub record IsPartWritten (old new : FixedTarget) (position : Subset) (element : ℕ → Bytes) : Type 0 where
  pub reference : new.bytes.ghost_name ≡ old.bytes.ghost_name
  pub element_size : new.element_size ≡ old.element_size
  pub shape : new.shape.now ≡ old.shape.now
  pub subset : new.subset.now ≡ old.subset.now
  pub length : length new.bytes.now ≡ length old.bytes.now
  pub elements : IsUpdated (count_of position.shape) (number_in position old.shape.now)
      (piece old.element_size old.bytes.now) element (piece old.element_size new.bytes.now)

-- the tests of elements that are to be written into a target's subset
abbrev pub TargetRefusals : DataTypeSize → ℕ → FixedTarget → Refusals → Refusals
TargetRefusals kind count target later =
    kind ≡ Fixed (target_element_size target) or WrongElementKind then
    count_of (target_subset target).shape ≡ count or InvalidNumberOfElements then
    later
