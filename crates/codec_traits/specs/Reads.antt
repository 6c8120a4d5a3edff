-- Reads of some cells of an array that stands in an interval of an object.
use Rattle.std.specs.Prelude.{◌≡◌, ◌≤◌, ◌^◌, ◌⊎◌, ⊤, ℕ, Option, Some, None, List, [], length, map, slice_index_or}
use Rattle.std.specs.List.{All}
use Rattle.parts_errors.specs.Order.{◌or◌then◌}
use Rattle.parts_row_major.specs.Numbering.{number_of}
use Rattle.parts_arrays.specs.ArraySpec.{ArraySpec, array_spec}
use Rattle.parts_arrays.specs.Types.{size_of, FitsKind}
use Rattle.parts_arrays.specs.Arrays.{Array}
use Rattle.parts_arrays.specs.Targets.{IsWritten}
use Rattle.parts_arrays.specs.declared.target.FixedTarget.{FixedTarget}
use Rattle.parts_subsets.specs.Selections.{Selection, IsSelectionOf, SelectionRefusals}
use Rattle.parts_errors.specs.declared.error.CodecError.{CodecError}
use Rattle.parts_errors.specs.declared.error.CodecError.TheVariants.{OutOfMemory, TooLarge, Fault}
use Rattle.storage_handles.specs.declared.bytes.Interval.{Interval}
use Rattle.storage_handles.specs.Objects.{interval_part, HasInterval}
use Rattle.codec_traits.specs.Refusals.{AreTooLong, AreDamaged}
use Rattle.codec_traits.specs.declared.stored.StoredArray.{StoredArray}

-- the shape, the type and the fill value of an array that stands in an interval
abbrev pub stored_spec : StoredArray → ArraySpec
stored_spec stored = array_spec stored.shape.now stored.data_type.now stored.fill_value.now

-- the cells at some coordinates of a shape, in their order, duplicates kept
abbrev pub cells_at : List (Option (List ℕ)) → List ℕ → List (List ℕ) → List (Option (List ℕ))
cells_at cells shape points = map (λ point. slice_index_or cells (number_of point shape) None) points

-- what an accepted read answers, whether the handle is transparent or not: an element of the type for each requested coordinate, which
-- lies in
-- the shape
pub record IsAnswer (g : ArraySpec) (selection : Selection) (array : Array) : Type 0 where
  pub selected : IsSelectionOf g.shape selection
  pub kind : array.kind ≡ size_of g.data_type
  pub counted : length array.elements ≡ length selection.points
  pub fitting : All (FitsKind (size_of g.data_type)) array.elements

-- the elements are those of the interval's cells at the requested coordinates; `cells` says what bytes stand for
pub record IsReadOf
    (cells : List ℕ → List (Option (List ℕ))) (interval : Interval) (contents : Option (List ℕ))
    (shape : List ℕ) (points elements : List (List ℕ)) : Type 0 where
  pub inside : HasInterval interval contents
  pub read : cells_at (cells (interval_part interval contents)) shape points ≡ map Some elements

-- the target's subset was overwritten by cells, which are all there, in row-major order
pub record IsDecodedInto (old new : FixedTarget) (cells : List (Option (List ℕ))) : Type 0 where
  pub elements : List (List ℕ)
  pub there : cells ≡ map Some elements
  pub written : IsWritten old new (λ k. slice_index_or elements k [])

-- the target's subset was overwritten by some elements in row-major order, whether the handle is transparent or not
abbrev pub IsOverwritten : (old new : FixedTarget) → Type 0
IsOverwritten old new = (elements : List (List ℕ)) × IsWritten old new (λ k. slice_index_or elements k [])

-- how a read of the requested ones of some cells may be refused, faults aside: as `decode` for all of them or the requested ones, or where
-- more are
-- asked than can be counted
abbrev pub MayRefuseRead : (cells requested : List (Option (List ℕ))) → CodecError → Type 0
MayRefuseRead cells requested OutOfMemory = ⊤
MayRefuseRead cells requested TooLarge = (2 ^ 64 ≤ length requested) ⊎ (AreTooLong requested ⊎ (AreTooLong cells ⊎ AreDamaged cells))
MayRefuseRead cells requested Fault = ⊥
MayRefuseRead cells requested _ = AreDamaged cells

-- the tests of what is asked: so many cells as are asked can be answered
abbrev pub RequestRefusals : ArraySpec → Selection → (ℕ → Type 0) → (CodecError → Type 0) → CodecError → Type 0
RequestRefusals g selection CanAnswer later =
    SelectionRefusals g.shape selection (
    CanAnswer (length selection.points) or TooLarge then
    later)
