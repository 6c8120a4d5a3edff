-- Rows of the bytes of an array, laid end to end.
use Rattle.std.proofs.Common.{◌≡◌, ℕ, ◌+◌, ◌-◌, ◌*◌, ◌/◌, ◌<◌, ◌≤◌, ◌⊎◌, inl, inr, Bool, Decides, IsPermutation, List, [], ◌∷◌, ◌++◌, length, get_or, set, take, drop, refl, sym, ap, ◌∙◌, arith, true, false, append_assoc, length-append, length-drop}
use Rattle.std.specs.List.{All, concat, range_with_len}
use Rattle.std.proofs.lemmas.Bool.{false_from_ne_true}
use Rattle.std.proofs.Math.Seq.{take-add}
use Rattle.std.proofs.Math.Nat.{div-eq_of_eq-mul_left}
use Rattle.std.proofs.lemmas.List.{ext_get_or, drop-drop, length-take-le}
use Rattle.std.proofs.lemmas.Nat.{row_fits}
use Rattle.parts_errors.specs.Words.{Written}
use Rattle.parts_row_major.specs.Numbering.{count_of}
use Rattle.parts_row_major.specs.Pieces.{piece, pieces}
use Rattle.parts_subsets.specs.Grid.{Divides, grid_of, subchunk, cell_number}
use Rattle.parts_arrays.specs.ArraySpec.{array_spec, IsArrayOf}
use Rattle.parts_arrays.specs.declared.data_type.DataType.{DataType}
use Rattle.parts_arrays.specs.Arrays.{IsWhole, fixed_array}
use Rattle.parts_subsets.proofs.GridLaws.{count-grid, length-subchunk, get_or-subchunk}
use Rattle.parts_row_major.proofs.PieceLaws.{length-concat, piece_of-concat, concat-pieces, length-pieces, piece_of-pieces, piece_in_run}
use Rattle.parts_arrays.proofs.ArrayLaws.{length-piece, whole_from_length}
use Rattle.codec_traits.specs.Encodings.{IsPlain}
use Rattle.codec_traits.specs.Meanings.{Meaning}
use Rattle.sharding_format.specs.Laws.{IsArrayOf-subchunk}
use Rattle.sharding_format.specs.Encoding.{IsAllFill}
use Rattle.sharding_format.specs.Laying.{placed_slot, IsStoredInOrder}
use Rattle.sharding_format.specs.WriteOrderLaws.{order_below}
use Rattle.sharding_format.specs.declared.slot.Slot.{Slot}
use Rattle.sharding_format.specs.declared.slot.Slot.TheVariants.{Absent, InRange}
use Rattle.sharding_format.proofs.LayingLemmas.{IsStoredUpTo, next_stored, all_stored}
use Rattle.sharding_subchunks.proofs.AppendLemmas.{one_more_after}
use Rattle.sharding_subchunks.specs.PlainRows.{ArePlainRows}

-- the bytes of a row, by its elements
row_is : (n many size k : ℕ) (bytes : List ℕ) → size ≡ many * n → take (many * n) (drop ((k * many) * n) bytes) ≡ piece size bytes k
row_is n many size k bytes is =
    let at : (k * many) * n ≡ k * (many * n) = grind arith in
    ap (λ i. take (many * n) (drop i bytes)) at ∙ ap (λ s. take s (drop (k * s) bytes)) (sym is)

-- the subchunks of an array that follow one another in it are rows of its bytes
pub plain_rows : (m : Meaning) (data_type : DataType) (fill shape sub : List ℕ) (a : List (List ℕ)) (bytes : List ℕ) (size : ℕ)
    → IsPlain (array_spec sub data_type fill) m size → ((k p : ℕ) → p < count_of sub → cell_number shape sub k p ≡ k * count_of sub + p) → Divides sub shape → 0 < count_of shape
    → IsArrayOf (array_spec shape data_type fill) a → bytes ≡ concat a → ArePlainRows m.written fill shape sub a bytes size (count_of (grid_of shape sub))
plain_rows m data_type fill shape sub a bytes size plain runs divides some array is =
    let n = length fill in
    let many = count_of sub in
    let rows = count_of (grid_of shape sub) in
    let sized : All (λ e. length e ≡ n) a = rw plain.fixed at array.fitting in
    let grid = count-grid shape sub divides in
    let size_is : size ≡ many * n = plain.size_is in
    let long : length bytes ≡ rows * size =
    ap length is ∙ (length-concat n a sized ∙ (ap (λ c. c * n) (array.counted ∙ grid) ∙ (omega (arith, ap (λ s. rows * s) size_is)))) in
    let some_positions : 0 < many = grind (arith, some, grid) in
    let within : (k : ℕ) → k < rows → k * size + size ≤ length bytes = λ k lt. omega (arith, long, row_fits k size rows size lt (omega arith)) in
    let row_long : (k : ℕ) → k < rows → length (piece size bytes k) ≡ many * n = λ k lt. length-piece size bytes k (within k lt) ∙ size_is in
    let counted : (k : ℕ) → k < rows → length (piece size bytes k) / n ≡ many = λ k lt. div-eq_of_eq-mul_left plain.some (row_long k lt) in
    let whole : (k : ℕ) → k < rows → IsWhole n (piece size bytes k) = λ k lt. whole_from_length n many (piece size bytes k) plain.some (row_long k lt) in
    let cut : (k : ℕ) → k < rows → subchunk shape sub a k ≡ pieces n many (piece size bytes k) = λ k lt.
    ext_get_or [] (subchunk shape sub a k) (pieces n many (piece size bytes k)) (length-subchunk shape sub a k ∙ sym (length-pieces n many (piece size bytes k))) (λ p below.
    let lp : p < many = omega (arith, length-subchunk shape sub a k) in
    let inside : k * many + p < length a = omega (arith, array.counted, grid, row_fits k many rows many lt (omega arith)) in
    get_or-subchunk shape sub a k p [] lp
    ∙ (ap (λ i. get_or a i []) (runs k p lp)
    ∙ (sym (piece_of-concat n a (k * many + p) sized inside)
    ∙ (ap (λ b. piece n b (k * many + p)) (sym is)
    ∙ (sym (piece_in_run n (k * many) many p bytes lp)
    ∙ (ap (λ b. piece n b p) (row_is n many size k bytes size_is)
    ∙ sym (piece_of-pieces n many (piece size bytes k) p lp))))))) in
    record {
      some = grind (arith, size_is, some_positions, plain.some);
      counted = long;
      whole = whole;
      elements = λ k lt. cut k lt ∙ ap (λ c. pieces n c (piece size bytes k)) (sym (counted k lt));
      written = λ k lt.
          let joined : concat (subchunk shape sub a k) ≡ piece size bytes k = ap concat (cut k lt) ∙ concat-pieces n many (piece size bytes k) (row_long k lt) in
          rw joined at (plain.written (subchunk shape sub a k) (IsArrayOf-subchunk sub (array_spec shape data_type fill) a k divides array lt));
    }

-- the rows so far laid out, of which the last stand in the array's bytes only: all from a place on
pub record AreRowsStored (inner_written : Written) (fill shape sub : List ℕ) (a : List (List ℕ)) (bytes : List ℕ) (size : ℕ)
    (slices : List ℕ) (slots : List Slot) (copied k : ℕ) : Type 0 where
  pub appended : copied ≤ k * size
  pub short : length slices ≤ copied
  pub stored_slices : IsStoredUpTo inner_written fill shape sub a (slices ++ take (k * size - copied) (drop copied bytes)) slots k

module _ (inner_written : Written) (fill shape sub : List ℕ) (a : List (List ℕ)) (bytes : List ℕ) (size n : ℕ)
    (rows : ArePlainRows inner_written fill shape sub a bytes size n) where
  pub row_within : (k : ℕ) → k < n → k * size + size ≤ length bytes
  row_within k lt = omega (arith, rows.counted, row_fits k size n size lt (omega arith))

  pub row_length : (k : ℕ) → k < n → length (piece size bytes k) ≡ size
  row_length k lt = length-piece size bytes k (row_within k lt)

  pub no_rows : AreRowsStored inner_written fill shape sub a bytes size [] [] 0 0
  no_rows = record {
    appended = omega arith;
    short = omega arith;
    stored_slices = let none : 0 * size - 0 ≡ 0 = omega arith in rw none (record { counted = refl; stored_slices = λ j lt. absurd (omega arith); begins = λ j lt. absurd (omega arith); filled = refl });
  }

  -- one more row, stored
  pub row_stored : (slices : List ℕ) (slots grown : List Slot) (copied k : ℕ) → k < n → AreRowsStored inner_written fill shape sub a bytes size slices slots copied k
      → ¬ (IsAllFill fill (fixed_array (length fill) (piece size bytes k)).elements)
      → grown ≡ slots ++ InRange (length slices + (k * size - copied)) size ∷ []
      → AreRowsStored inner_written fill shape sub a bytes size slices grown copied (k + 1)
  row_stored slices slots grown copied k lt so_far other grows =
      let within = row_within k lt in
      let m = k * size - copied in
      let held = take m (drop copied bytes) in
      let held_long : length held ≡ m = length-take-le m (drop copied bytes) (omega (arith, length-drop copied bytes)) in
      let next : (k + 1) * size - copied ≡ m + size = omega (arith, so_far.appended) in
      let at : copied + m ≡ k * size = omega (arith, so_far.appended) in
      let more : take ((k + 1) * size - copied) (drop copied bytes) ≡ held ++ piece size bytes k =
      ap (λ i. take i (drop copied bytes)) next ∙ (take-add m size (drop copied bytes)
      ∙ ap (λ r. held ++ take size r) (drop-drop m copied bytes ∙ ap (λ i. drop i bytes) at)) in
      record {
        appended = omega (arith, so_far.appended);
        short = so_far.short;
        stored_slices = next_stored inner_written fill shape sub a (slices ++ held) (piece size bytes k) (slices ++ take ((k + 1) * size - copied) (drop copied bytes)) slots grown k true
            so_far.stored_slices
            (rw (rows.elements k lt) other, rows.written k lt)
            (ap (λ r. slices ++ r) more ∙ sym (append_assoc slices held (piece size bytes k)))
            (rw (length-append slices held, held_long, row_length k lt) grows);
      }

  -- one more row, blank
  pub row_blank : (slices newer : List ℕ) (slots grown : List Slot) (copied k : ℕ) → k < n → AreRowsStored inner_written fill shape sub a bytes size slices slots copied k
      → IsAllFill fill (fixed_array (length fill) (piece size bytes k)).elements
      → newer ≡ slices ++ take (k * size - copied) (drop copied bytes) → grown ≡ slots ++ Absent ∷ []
      → AreRowsStored inner_written fill shape sub a bytes size newer grown (k * size + size) (k + 1)
  row_blank slices newer slots grown copied k lt so_far blank is grows =
      let within = row_within k lt in
      let m = k * size - copied in
      let held = take m (drop copied bytes) in
      let held_long : length held ≡ m = length-take-le m (drop copied bytes) (omega (arith, length-drop copied bytes)) in
      let none : (k + 1) * size - (k * size + size) ≡ 0 = omega arith in
      record {
        appended = omega arith;
        short = omega (arith, so_far.appended, so_far.short, held_long, ap length is, length-append slices held);
        stored_slices = next_stored inner_written fill shape sub a (slices ++ held) [] (newer ++ take ((k + 1) * size - (k * size + size)) (drop (k * size + size) bytes)) slots grown k false
            so_far.stored_slices
            (rw (rows.elements k lt) blank, refl)
            (rw none (ap (λ r. r ++ []) is))
            grows;
      }

  -- all rows, the last of them copied
  pub all_rows : (slices all : List ℕ) (slots : List Slot) (copied : ℕ) → AreRowsStored inner_written fill shape sub a bytes size slices slots copied n
      → all ≡ slices ++ take (length bytes - copied) (drop copied bytes) → IsStoredInOrder inner_written fill shape sub a all slots (range_with_len 0 n) n
  all_rows slices all slots copied so_far is = all_stored inner_written fill shape sub a all slots n (rw (rw rows.counted at is) so_far.stored_slices)

  module _ (order : List ℕ) (permutes : IsPermutation (range_with_len 0 n) order) where
    -- the row of a place
    pub row_below : (i : ℕ) → i < n → get_or order i 0 < n
    row_below i lt = order_below n order i permutes lt

    -- one more row along an order, stored or blank
    pub row_along : (old slices newer run : List ℕ) (slots grown : List Slot) (i k : ℕ) (some_run : Bool) → i < n → get_or order i 0 ≡ k
        → take (length old) slices ≡ old
        → IsStoredInOrder inner_written fill shape sub a (drop (length old) slices) slots order i
        → (IsAllFill fill (fixed_array (length fill) (piece size bytes k)).elements × (run ≡ [])) ⊎ ((¬ (IsAllFill fill (fixed_array (length fill) (piece size bytes k)).elements)) × (run ≡ piece size bytes k))
        → newer ≡ slices ++ run
        → Decides some_run (0 < length run)
        → grown ≡ set slots k (placed_slot some_run (length slices - length old) (length run))
        → IsStoredInOrder inner_written fill shape sub a (drop (length old) newer) grown order (i + 1)
    row_along old slices newer run slots grown i k some_run lt number stay stored_slices row is test put =
        let k_lt : k < n = rw (← number) (row_below i lt) in
        elim row [
          | inl blank ↦
              let empty : some_run ≡ false = false_from_ne_true some_run (λ t. omega (arith, test.0 t, ap length blank.1)) in
              one_more_after inner_written fill shape sub a old slices run newer slots grown order n i k false permutes lt number stay stored_slices
              (rw (rows.elements k k_lt) blank.0, blank.1) is (rw empty at put)
          | inr stored ↦
              let full : some_run ≡ true = test.1 (omega (arith, ap length stored.1, row_length k k_lt, rows.some)) in
              one_more_after inner_written fill shape sub a old slices run newer slots grown order n i k true permutes lt number stay stored_slices
              (rw (rows.elements k k_lt) stored.0, rw stored.1 (rows.written k k_lt)) is (rw full at put)
        ]
