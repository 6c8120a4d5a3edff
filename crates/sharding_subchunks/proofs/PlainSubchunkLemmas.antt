-- Subchunks of an array, gathered from its bytes.
use Rattle.std.proofs.Common.{◌≡◌, ◌∙◌, ℕ, ◌*◌, ◌/◌, ◌<◌, List, [], length, sym, ap, arith}
use Rattle.std.specs.List.{All, concat}
use Rattle.std.proofs.Math.Nat.{div-eq_of_eq-mul_left}
use Rattle.std.proofs.lemmas.List.{ext_get_or}
use Rattle.parts_row_major.specs.Numbering.{count_of}
use Rattle.parts_row_major.specs.Pieces.{piece, pieces}
use Rattle.parts_row_major.proofs.PieceLaws.{length-concat, piece_of-concat, length-pieces, piece_of-pieces}
use Rattle.parts_subsets.specs.Grid.{Divides, grid_of, subchunk, cell_number}
use Rattle.parts_subsets.proofs.GridLaws.{length-subchunk, get_or-subchunk, cell_number-below}
use Rattle.parts_arrays.specs.ArraySpec.{array_spec, IsArrayOf}
use Rattle.parts_arrays.specs.Arrays.{fixed_array}
use Rattle.parts_arrays.specs.Types.{size_of}
use Rattle.parts_arrays.specs.declared.data_type.DataType.{DataType}
use Rattle.parts_arrays.specs.declared.data_type.DataTypeSize.TheVariants.{Fixed}

module _ (data_type : DataType) (fill shape : List ℕ) (a : List (List ℕ)) (bytes : List ℕ) (fixed : size_of data_type ≡ Fixed (length fill))
    (array : IsArrayOf (array_spec shape data_type fill) a) (is : bytes ≡ concat a) where
  -- the elements have one size
  sized : All (λ e. length e ≡ length fill) a
  sized = rw fixed at array.fitting

  -- how many bytes they have together
  pub array_bytes : length bytes ≡ count_of shape * length fill
  array_bytes = ap length is ∙ (length-concat (length fill) a sized ∙ ap (λ c. c * length fill) array.counted)

  -- what is gathered of a subchunk's cells are its elements
  pub gathered_subchunk : (sub part : List ℕ) (k : ℕ) → 0 < length fill → Divides sub shape → k < count_of (grid_of shape sub) → length part ≡ count_of sub * length fill
      → ((p : ℕ) → p < count_of sub → piece (length fill) part p ≡ piece (length fill) bytes (cell_number shape sub k p))
      → (fixed_array (length fill) part).elements ≡ subchunk shape sub a k
  gathered_subchunk sub part k some divides lt long each =
      let n = length fill in
      let many = count_of sub in
      let counted : length part / n ≡ many = div-eq_of_eq-mul_left some long in
      ap (λ c. pieces n c part) counted
      ∙ ext_get_or [] (pieces n many part) (subchunk shape sub a k) (length-pieces n many part ∙ sym (length-subchunk shape sub a k)) (λ p below.
      let lp : p < many = omega (arith, length-pieces n many part, below) in
      let inside : cell_number shape sub k p < length a = omega (arith, cell_number-below shape sub divides k p lt lp, array.counted) in
      piece_of-pieces n many part p lp
      ∙ (each p lp
      ∙ (ap (λ b. piece n b (cell_number shape sub k p)) is
      ∙ (piece_of-concat n a (cell_number shape sub k p) sized inside
      ∙ sym (get_or-subchunk shape sub a k p [] lp)))))
