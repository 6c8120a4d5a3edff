-- Elements of one size, written over some of an array's in place.
use Rattle.std.proofs.Common.{◌≡◌, ℕ, ◌*◌, ◌<◌, List, length, ap, sym, ◌∙◌, subst, arith}
use Rattle.std.specs.List.{All, concat}
use Rattle.parts_row_major.specs.Numbering.{count_of}
use Rattle.parts_row_major.specs.Subsets.{Subset, LiesIn, number_in}
use Rattle.parts_arrays.specs.Types.{FitsKind}
use Rattle.parts_row_major.specs.Pieces.{piece, IsUpdated}
use Rattle.parts_arrays.specs.Arrays.{Array, IsWhole, fixed_array, extracted, IsOverlaid}
use Rattle.parts_arrays.specs.declared.data_type.DataTypeSize.TheVariants.{Fixed}
use Rattle.parts_arrays.proofs.ArrayLaws.{whole-concat, fixed_array-concat, overlaid_array}
use Rattle.parts_row_major.proofs.PieceLaws.{length-concat, number_in_below, piece_of-concat}
use Rattle.sharding_write.proofs.PartLemmas.{counted, element_at, fitting}

-- so many elements of one size have so many bytes
pub many_bytes : (size count : ℕ) (array : Array) → All (FitsKind (Fixed size)) array.elements → length array.elements ≡ count → length (concat array.elements) ≡ count * size
many_bytes size count array fits counted = length-concat size array.elements fits ∙ ap (λ n. n * size) counted

-- an array is cut back out of its bytes
cut_back : (size : ℕ) (array : Array) → 0 < size → array.kind ≡ Fixed size → All (FitsKind (Fixed size)) array.elements → fixed_array size (concat array.elements) ≡ array
cut_back size array some kind fits =
    fixed_array-concat size array.elements some fits ∙ ap (λ k. record { kind = k; elements = array.elements }) (sym kind)

-- bytes written over are elements written over
pub overlaid_bytes : (size : ℕ) (old part : Array) (new : List ℕ) (subset : Subset) (shape : List ℕ) → 0 < size → old.kind ≡ Fixed size → part.kind ≡ Fixed size
    → All (FitsKind (Fixed size)) old.elements → All (FitsKind (Fixed size)) part.elements → length new ≡ length (concat old.elements)
    → IsUpdated (count_of subset.shape) (number_in subset shape) (piece size (concat old.elements)) (piece size (concat part.elements)) (piece size new)
    → IsOverlaid subset shape old part (fixed_array size new)
overlaid_bytes size old part new subset shape some kind part_kind fits part_fits long written =
    let made = overlaid_array size (concat old.elements) (concat part.elements) new subset shape (whole-concat size old.elements some fits) (whole-concat size part.elements some part_fits) long written in
    subst (λ (a : Array). IsOverlaid subset shape a part (fixed_array size new)) (cut_back size old some kind fits)
    (subst (λ (p : Array). IsOverlaid subset shape (fixed_array size (concat old.elements)) p (fixed_array size new)) (cut_back size part some part_kind part_fits) made)

-- bytes of a subset of an update, written over others, are its elements written over others
pub overlaid_subset : (size : ℕ) (old update : Array) (new : List ℕ) (subset part : Subset) (shape other : List ℕ) → 0 < size → old.kind ≡ Fixed size → update.kind ≡ Fixed size
    → All (FitsKind (Fixed size)) old.elements → All (FitsKind (Fixed size)) update.elements → length update.elements ≡ count_of other → LiesIn part other → count_of part.shape ≡ count_of subset.shape
    → length new ≡ length (concat old.elements)
    → IsUpdated (count_of subset.shape) (number_in subset shape) (piece size (concat old.elements)) (λ k. piece size (concat update.elements) (number_in part other k)) (piece size new)
    → IsOverlaid subset shape old (extracted update part other) (fixed_array size new)
overlaid_subset size old update new subset part shape other some kind update_kind fits update_fits all inside same long written =
    let taken = extracted update part other in
    let part_fits = fitting (Fixed size) update part other inside all update_fits in
    overlaid_bytes size old taken new subset shape some kind update_kind fits part_fits long (record {
      inside = λ k lt.
          let small : k < count_of part.shape = omega (arith, lt, same) in
          let below = number_in_below part other k inside small in
          written.inside k lt
          ∙ (piece_of-concat size update.elements (number_in part other k) update_fits (omega (arith, below, all))
          ∙ (sym (element_at update part other k small) ∙ sym (piece_of-concat size taken.elements k part_fits (omega (arith, small, counted update part other)))));
      outside = written.outside;
    })

pub whole_new : (size : ℕ) (old : Array) (new : List ℕ) → 0 < size → All (FitsKind (Fixed size)) old.elements → length new ≡ length (concat old.elements) → IsWhole size new
whole_new size old new some fits long = rw long (whole-concat size old.elements some fits)
