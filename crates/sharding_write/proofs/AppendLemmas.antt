-- Bytes put after slices, and written over there.
use Rattle.std.proofs.Common.{◌≡◌, ℕ, ◌*◌, ◌<◌, List, length, refl}
use Rattle.std.specs.List.{All, concat}
use Rattle.parts_row_major.specs.Numbering.{count_of}
use Rattle.parts_row_major.specs.Subsets.{Subset, LiesIn, number_in}
use Rattle.parts_arrays.specs.Types.{FitsKind}
use Rattle.parts_row_major.specs.Pieces.{piece, IsUpdated}
use Rattle.parts_arrays.specs.Arrays.{Array, fixed_array, extracted, IsOverlaid}
use Rattle.parts_arrays.specs.declared.data_type.DataTypeSize.TheVariants.{Fixed}
use Rattle.parts_arrays.proofs.ArrayLaws.{whole_from_length, concat-fixed_array, All-fixed_array}
use Rattle.sharding_write.proofs.InPlaceLemmas.{overlaid_subset}

-- a subset of an update, written over bytes
pub overlaid_whole : (size : ℕ) (bytes : List ℕ) (update : Array) (new : List ℕ) (subset part : Subset) (shape other : List ℕ) → 0 < size → length bytes ≡ count_of shape * size → update.kind ≡ Fixed size
    → All (FitsKind (Fixed size)) update.elements → length update.elements ≡ count_of other → LiesIn part other → count_of part.shape ≡ count_of subset.shape → length new ≡ length bytes
    → IsUpdated (count_of subset.shape) (number_in subset shape) (piece size bytes) (λ k. piece size (concat update.elements) (number_in part other k)) (piece size new)
    → IsOverlaid subset shape (fixed_array size bytes) (extracted update part other) (fixed_array size new)
overlaid_whole size bytes update new subset part shape other some long kind fits all inside same stays written =
    let whole = whole_from_length size (count_of shape) bytes some long in
    let back = concat-fixed_array size bytes whole in
    overlaid_subset size (fixed_array size bytes) update new subset part shape other some refl kind (All-fixed_array size bytes whole) fits all inside same (rw back stays) (rw back written)
