-- A chunk of fill values at whose start elements are put, and how it is stored.
use Rattle.std.proofs.Common.{◌≡◌, ◌∙◌, ℕ, ◌*◌, ◌<◌, List, length, ap}
use Rattle.std.proofs.Math.Nat.{div-eq_of_eq-mul_left}
use Rattle.parts_errors.specs.Words.{Bytes}
use Rattle.parts_row_major.specs.Numbering.{count_of}
use Rattle.parts_row_major.specs.Subsets.{Subset, number_in}
use Rattle.parts_row_major.specs.Pieces.{piece, IsUpdated}
use Rattle.parts_arrays.specs.Arrays.{Array, element_of, fixed_array, IsWhole}
use Rattle.parts_arrays.specs.declared.data_type.DataTypeSize.TheVariants.{Fixed}
use Rattle.parts_arrays.proofs.ArrayLaws.{element_is_piece, length-fixed_array, whole_from_length}
use Rattle.array_grid.specs.Cells.{CellsOfSubset, AreFilled, AreWhole}
use Rattle.array_cli.specs.Padded.{at_start, ArePadded}

pub padded : (fill : Bytes) (shape chunk : List ℕ) (elements : Array) (part : Subset) (old new : CellsOfSubset) → part ≡ at_start shape → AreFilled chunk fill old
    → new.element_size ≡ old.element_size → new.shape ≡ old.shape → AreWhole new.bytes new.element_size new.shape
    → IsUpdated (count_of part.shape) (number_in part old.shape) (piece old.element_size old.bytes) (element_of elements) (piece old.element_size new.bytes)
    → ArePadded fill shape chunk elements (fixed_array new.element_size new.bytes)
padded fill shape chunk elements part old new start filled size around whole put =
    let n = new.element_size in
    let b = new.bytes in
    let sized : n ≡ length fill = size ∙ filled.same_size in
    let long : length b ≡ count_of chunk * n = whole.whole ∙ ap (λ s. count_of s * n) (around ∙ filled.same_shape) in
    let wholes : IsWhole n b = whole_from_length n (count_of chunk) b whole.some long in
    let placed : IsUpdated (count_of shape) (number_in (at_start shape) chunk) (piece n old.bytes) (element_of elements) (piece n b) =
    rw (← size, start, filled.same_shape) at put in
    let blank : (i : ℕ) → i < count_of chunk → piece n old.bytes i ≡ fill = λ i lt. ap (λ m. piece m old.bytes i) sized ∙ filled.each i lt in
    record {
      kind = ap Fixed sized;
      counted = length-fixed_array n b ∙ div-eq_of_eq-mul_left whole.some long;
      in_array = λ k lt. element_is_piece n b (number_in (at_start shape) chunk k) wholes ∙ placed.inside k lt;
      behind = λ i lt none. element_is_piece n b i wholes ∙ (placed.outside i none ∙ blank i lt);
    }
