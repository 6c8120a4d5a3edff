-- Steps of a codec with the codec `transpose` before it.
use Rattle.std.proofs.Common.{◌≡◌, ◌<◌, ℕ, List, [], None, length, get_or, sym, ap, ◌∙◌, arith, inl, inr}
use Rattle.std.proofs.lemmas.List.FromFn.{length-map-range_with_len, get_or-map-range_with_len}
use Rattle.parts_errors.specs.Words.{Elements, CellList}
use Rattle.parts_errors.specs.declared.error.CodecError.{CodecError}
use Rattle.parts_errors.specs.declared.error.CodecError.TheVariants.{OutOfMemory, TooLarge, CannotEncode, Fault}
use Rattle.parts_row_major.specs.Numbering.{count_of, point_of}
use Rattle.codec_traits.specs.Refusals.{AreTooLong, AreDamaged, MayRefuseDecode, MayRefuseEncode}
use Rattle.codec_traits.specs.Meanings.{Meaning}
use Rattle.parts_arrays.specs.ArraySpec.{ArraySpec}
use Rattle.array_codecs.specs.TransposeCodec.{encoded_elements, transpose_meaning}
use Rattle.sharding_format.proofs.CellLemmas.{damaged_position, damaged_at, too_long_among}
use Rattle.array_codecs.specs.AxisOrders.{permuted, number_moved, transposed}
use Rattle.array_codecs.specs.MovedPoints.{moved_selection}
use Rattle.array_codecs.specs.AxisOrderLaws.{IsPermutation, moved_forth, moved_from_below, moved_apart, transposed_at, length-transposed, length-permuted}

-- where the elements of an array stand in the transposed one, as many
pub length-moved : (order shape : List ℕ) → length (moved_selection order shape).points ≡ count_of shape
length-moved order shape = length-map-range_with_len (λ i. permuted order (point_of i shape)) 0 (count_of shape)

pub moved_point : (order shape : List ℕ) (i : ℕ) → i < count_of shape → get_or (moved_selection order shape).points i [] ≡ permuted order (point_of i shape)
moved_point order shape i lt = get_or-map-range_with_len (λ k. permuted order (point_of k shape)) 0 (count_of shape) i i [] lt (omega arith)

module _ (order : List ℕ) (shape : List ℕ) (cells : CellList) (permutation : IsPermutation order) (axes : length shape ≡ length order)
    (counted : length cells ≡ count_of (permuted order shape)) where
  -- the number of a cell of the transposed array, in the array
  from : ℕ → ℕ
  from j = number_moved permutation.inverse (permuted order shape) j

  from_below : (j : ℕ) → j < length cells → from j < count_of shape
  unfolding from
  from_below j lt = moved_from_below order permutation.inverse shape j permutation.undone permutation.undoes axes (omega (arith, counted))

  cell_from : (j : ℕ) → j < length cells → get_or (transposed order shape None cells) (from j) None ≡ get_or cells j None
  unfolding from
  cell_from j lt =
      transposed_at order shape None cells (from j) (from_below j lt)
      ∙ ap (λ n. get_or cells n None) (moved_forth order permutation.inverse shape j permutation.undone permutation.undoes axes (omega (arith, counted)))

  from_apart : (i j : ℕ) → i < length cells → j < length cells → from i ≡ from j → i ≡ j
  unfolding from
  from_apart i j below_i below_j same =
      let other = permuted order shape in
      let long : length other ≡ length permutation.inverse = length-permuted order shape ∙ sym permutation.undone.alike in
      moved_apart permutation.inverse order other i j permutation.undoes permutation.undone long (omega (arith, counted)) (omega (arith, counted)) same

  inside_from : (j : ℕ) → j < length cells → from j < length (transposed order shape None cells)
  inside_from j lt = omega (arith, from_below j lt, length-transposed order shape None cells)

  damaged : AreDamaged cells → AreDamaged (transposed order shape None cells)
  damaged none =
      let lost = damaged_position cells none in
      damaged_at (transposed order shape None cells) (from lost.0) (inside_from lost.0 lost.1.0) (cell_from lost.0 lost.1.0 ∙ lost.1.1)

  too_long : AreTooLong cells → AreTooLong (transposed order shape None cells)
  too_long long = too_long_among cells (transposed order shape None cells) from inside_from from_apart cell_from long

  -- what may be refused of the cells of the transposed array, may be of those of the array
  pub refused_transposed : (e : CodecError) → MayRefuseDecode cells e → MayRefuseDecode (transposed order shape None cells) e
  refused_transposed OutOfMemory may = tt
  refused_transposed TooLarge (inl long) = inl (too_long long)
  refused_transposed TooLarge (inr none) = inr (damaged none)
  refused_transposed Fault may = absurd may
  refused_transposed _ may = damaged may

module _ (order : List ℕ) (m : Meaning) (g : ArraySpec) where
  -- what the codec may refuse of the transposed array, may be refused of the array
  pub refused_encoding : (elements : Elements) (e : CodecError) → MayRefuseEncode m (encoded_elements order g elements) e
      → MayRefuseEncode (transpose_meaning order m g) elements e
  refused_encoding elements OutOfMemory may = tt
  refused_encoding elements CannotEncode may = may
  refused_encoding elements TooLarge may = may
  refused_encoding elements _ may = absurd may
