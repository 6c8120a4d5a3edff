-- The laws that what a codec means keeps.
use Rattle.std.specs.Prelude.{◌≡◌, ◌<◌, ℕ, List, Some, None, IfSome, length, map, slice_index_or}
use Rattle.parts_row_major.specs.Numbering.{count_of}
use Rattle.parts_arrays.specs.ArraySpec.{ArraySpec, IsArrayOf}
use Rattle.parts_arrays.specs.Types.{size_of, FitsKind}
use Rattle.parts_arrays.specs.Arrays.{Array}
use Rattle.parts_errors.specs.declared.error.CodecError.{CodecError}
use Rattle.codec_traits.specs.Meanings.{Meaning}
use Rattle.codec_traits.specs.Refusals.{IsNoFault}
use Rattle.codec_traits.specs.Representations.{IsWithin}

-- the meaning of a codec for the arrays of a shape, a type and a fill value is lawful
pub record IsLawful (g : ArraySpec) (m : Meaning) : Type 0 where
  -- neither `check` nor `encode` nor `compact` refuses as a fault
  pub check_faultless : (e : CodecError) → m.check_refusals e → IsNoFault e
  pub encode_faultless : (array : Array) (e : CodecError) → m.encode_refusals array e → IsNoFault e
  pub compact_faultless : (b : List ℕ) (e : CodecError) → m.compact_refusals b e → IsNoFault e
  -- bytes stand for as many cells as the shape has
  pub cells_counted : (b : List ℕ) → m.serves → length (m.cells b) ≡ count_of g.shape
  -- a cell that is there fits the type
  pub cells_fitting : (b : List ℕ) (i : ℕ) → m.serves → i < count_of g.shape
      → IfSome (slice_index_or (m.cells b) i None) (FitsKind (size_of g.data_type))
  -- an encoding stands for the array that was encoded
  pub written_cells : (a : List (List ℕ)) (b : List ℕ) → m.serves → IsArrayOf g a → m.written a b → m.cells b ≡ map Some a
  -- what is compacted stands for the same cells
  pub compacted_cells : (old new : List ℕ) → m.serves → m.compacted old new → m.cells new ≡ m.cells old
  -- an encoding is as long as the representation says
  pub bounded : (a : List (List ℕ)) (b : List ℕ) → m.serves → IsArrayOf g a → m.written a b → IsWithin m.representation (length b)
