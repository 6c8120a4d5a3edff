-- A codec keeps the laws with the codec `transpose` before it.
use Rattle.std.proofs.Common.{◌≡◌, ◌<◌, ℕ, List, [], Some, None, IfSome, true, length, map, get_or, refl, sym, ap, ◌∙◌, arith}
use Rattle.std.proofs.lemmas.List.Elements.{All-from_get_or}
use Rattle.parts_errors.specs.Words.{Bytes, Elements}
use Rattle.parts_errors.specs.declared.error.CodecError.TheVariants.{WrongElementKind, InvalidNumberOfElements, IncompatibleDimensionality}
use Rattle.parts_row_major.specs.Numbering.{count_of}
use Rattle.parts_arrays.specs.ArraySpec.{ArraySpec, IsArrayOf}
use Rattle.parts_arrays.specs.Types.{size_of, FitsKind}
use Rattle.codec_traits.specs.Meanings.{Meaning}
use Rattle.codec_traits.specs.Laws.{IsLawful}
use Rattle.codec_traits.specs.RefusalLaws.{test_faultless}
use Rattle.array_codecs.specs.AxisOrders.{inverse_of, is_order, permuted, number_moved, transposed}
use Rattle.array_codecs.specs.AxisOrderLaws.{IsPermutation, order_undone, inverse_undone, inverse_permutation}
use Rattle.array_codecs.specs.AxisOrderLaws.{length-inverse_of, moved_below}
use Rattle.array_codecs.specs.AxisOrderLaws.{length-transposed, transposed_at, transposed_back, transposed_there}
use Rattle.array_codecs.specs.AxisOrderLaws.{permuted_back, length-permuted}
use Rattle.array_codecs.specs.TransposeCodec.{TransposeServes, transposed_spec, encoded_elements, transpose_meaning}

-- elements that are transposed are an array where they were one
pub transposed_array : (order : List ℕ) (shape : List ℕ) (g h : ArraySpec) (elements : Elements) → IsPermutation order
    → length shape ≡ length order
    → g.shape ≡ permuted order shape → h.shape ≡ shape → h.data_type ≡ g.data_type → IsArrayOf g elements
    → IsArrayOf h (transposed order shape [] elements)
transposed_array order shape g h elements permutation axes from to kind array =
    let fits : Bytes → Type 0 = FitsKind (size_of h.data_type) in
    let long : length (transposed order shape [] elements) ≡ count_of shape = length-transposed order shape [] elements in
    record {
      counted = long ∙ ap count_of (sym to);
      fitting = All-from_get_or fits (transposed order shape [] elements) [] (λ i lt.
          let below : i < count_of shape = omega (arith, long) in
          let moved : number_moved order shape i < length elements =
          omega (arith, moved_below order permutation.inverse shape i permutation.undone axes below, array.counted, ap count_of from) in
          rw (transposed_at order shape [] elements i below, kind) (array.fitting (number_moved order shape i) [] moved));
    }

module _ (order : List ℕ) (m : Meaning) (g : ArraySpec) where
  -- the elements of the transposed array are an array, and lead back
  pub encoded_array : (elements : Elements) → is_order order ≡ true → length g.shape ≡ length order → IsArrayOf g elements
      → IsArrayOf (transposed_spec order g) (encoded_elements order g elements)
  encoded_array elements permutation axes array =
      let long : length (permuted order g.shape) ≡ length (inverse_of order) = length-permuted order g.shape
      ∙ sym (length-inverse_of order) in
      let again : permuted (inverse_of order) (permuted order g.shape) ≡ g.shape =
      permuted_back order (inverse_of order) g.shape (inverse_undone order permutation) axes in
      transposed_array (inverse_of order) (permuted order g.shape) g (transposed_spec order g) elements
      (inverse_permutation order permutation) long (sym again) refl refl array

  module _ (law : IsLawful (transposed_spec order g) m) where
    cell_fitting : (b : Bytes) (i : ℕ) → TransposeServes order m g → i < count_of g.shape
        → IfSome (get_or (transposed order g.shape None (m.cells b)) i None) (FitsKind (size_of g.data_type))
    cell_fitting b i s below =
        let undone = order_undone order s.permutation in
        rw (transposed_at order g.shape None (m.cells b) i below)
        (law.cells_fitting b (number_moved order g.shape i) s.inner (moved_below order (inverse_of order) g.shape i undone s.axes below))

    cells_written : (a : Elements) (b : Bytes) → TransposeServes order m g → IsArrayOf g a → m.written (encoded_elements order g a) b
        → transposed order g.shape None (m.cells b) ≡ map Some a
    cells_written a b s array written =
        let undone = order_undone order s.permutation in
        let undoes = inverse_undone order s.permutation in
        let inner = encoded_array a s.permutation s.axes array in
        let cells : m.cells b ≡ map Some (encoded_elements order g a) =
        law.written_cells (encoded_elements order g a) b s.inner inner written in
        ap (transposed order g.shape None) cells
        ∙ (transposed_there order (inverse_of order) g.shape (encoded_elements order g a) undone s.axes inner.counted
        ∙ ap (map Some) (transposed_back order (inverse_of order) g.shape [] a undone undoes s.axes array.counted))

    -- what it means keeps the laws
    pub transpose_lawful : IsLawful g (transpose_meaning order m g)
    transpose_lawful = record {
      check_faultless = test_faultless _ IncompatibleDimensionality _ tt law.check_faultless;
      encode_faultless = λ array e h.
          test_faultless _ WrongElementKind _ tt (test_faultless _ InvalidNumberOfElements _ tt (law.encode_faultless _)) e h;
      compact_faultless = λ b e h. absurd h;
      cells_counted = λ b s. length-transposed order g.shape None (m.cells b);
      cells_fitting = λ b i s below. cell_fitting b i s below;
      written_cells = λ a b s h e. cells_written a b s h e;
      compacted_cells = λ old new s rewritten. absurd rewritten;
      bounded = λ a b s h e. law.bounded (encoded_elements order g a) b s.inner (encoded_array a s.permutation s.axes h) e;
    }
