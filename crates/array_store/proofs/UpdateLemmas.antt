-- A chunk whose elements are read, changed in a subset, and encoded.
use Rattle.std.proofs.Common.{◌≡◌, ℕ, suc, ◌<◌, List, [], ◌∷◌, Option, Some, length, replicate, refl, sym, subst, ap, ap₂, ◌∙◌, arith}
use Rattle.std.specs.List.{All}
use Rattle.std.proofs.lemmas.List.Elements.{length_all_zip}
use Rattle.parts_errors.specs.Words.{Bytes, Elements}
use Rattle.parts_row_major.specs.Numbering.{count_of}
use Rattle.parts_row_major.specs.Pieces.{piece, pieces, IsUpdated}
use Rattle.parts_row_major.specs.Subsets.{Subset, IsSubset, LiesIn, number_in}
use Rattle.parts_row_major.proofs.PieceLaws.{length-pieces, number_in_below, piece_of-pieces}
use Rattle.parts_arrays.specs.Arrays.{Array, element_of}
use Rattle.sharding_gather.proofs.PlacingLemmas.{number_in-whole}
use Rattle.array_grid.specs.Cells.{CellsOfSubset}
use Rattle.array_store.specs.ChunkWrites.{AreUpdated}
use Rattle.array_store.specs.steps.Reading.{IsPartPut}

-- the elements of a chunk that has been read as a whole
pub whole_read : (cell : ℕ → Option Bytes) (chunk : List ℕ) (old new : CellsOfSubset) → old.shape ≡ chunk
    → IsPartPut cell chunk (record { start = replicate (length chunk) 0; shape = chunk }) (record { start = replicate (length chunk) 0; shape = chunk }) old new
    → (p : ℕ) → p < count_of chunk → cell p ≡ Some (piece old.element_size new.bytes p)
whole_read cell chunk old new around put p below =
    let own = number_in-whole chunk p below in
    let there : number_in (record { start = replicate (length chunk) 0; shape = chunk }) old.shape p ≡ p =
    ap (λ shape. number_in (record { start = replicate (length chunk) 0; shape = chunk }) shape p) around ∙ own in
    ap cell (sym own) ∙ sym (put.inside p below) ∙ ap (λ n. Some (piece old.element_size new.bytes n)) there

zeros : (xs : List ℕ) → All (λ x. x ≡ 0) xs → xs ≡ replicate (length xs) 0
zeros [] all = refl
zeros (x ∷ xs) all = ap₂ (λ (y : ℕ) (ys : List ℕ). y ∷ ys) (all 0 0 (omega arith)) (zeros xs (λ k d lt. all (suc k) d (omega (arith, lt))))

-- the subset of a chunk that has its shape and begins where it does
pub all_of : (subset : Subset) (chunk : List ℕ) → IsSubset subset.start subset.shape → subset.shape ≡ chunk → All (λ s. s ≡ 0) subset.start
    → subset ≡ record { start = replicate (length chunk) 0; shape = chunk }
all_of subset chunk formed same first =
    let long : length subset.start ≡ length chunk = length_all_zip _ subset.start subset.shape formed ∙ ap length same in
    ap₂ (λ (start shape : List ℕ). record { start = start; shape = shape }) (zeros subset.start first ∙ ap (λ n. replicate n 0) long) same

-- the elements of a chunk all of which are written
pub all_updated : (chunk : List ℕ) (in_chunk : Subset) (before : ℕ → Option Bytes) (update : Array)
    → in_chunk ≡ record { start = replicate (length chunk) 0; shape = chunk } → length update.elements ≡ count_of chunk
    → AreUpdated chunk in_chunk (element_of update) before update.elements
all_updated chunk in_chunk before update whole counted = subst (λ (s : Subset). AreUpdated chunk s (element_of update) before update.elements) (sym whole) (record {
  counted = counted;
  inside = λ r few. ap (element_of update) (number_in-whole chunk r few);
  outside = λ p few off. absurd (off p few (number_in-whole chunk p few));
})

-- the elements of a chunk that are changed in a subset of it
pub updated_elements : (chunk : List ℕ) (in_chunk : Subset) (update : ℕ → Bytes) (before : ℕ → Option Bytes) (size many : ℕ) (old new : Bytes)
    → ((p : ℕ) → p < count_of chunk → before p ≡ Some (piece size old p))
    → IsUpdated (count_of in_chunk.shape) (number_in in_chunk chunk) (piece size old) update (piece size new)
    → ((r : ℕ) → r < count_of in_chunk.shape → number_in in_chunk chunk r < count_of chunk)
    → length (pieces size many new) ≡ count_of chunk → AreUpdated chunk in_chunk update before (pieces size many new)
updated_elements chunk in_chunk update before size many old new was wrote within counted =
    let all : many ≡ count_of chunk = sym (length-pieces size many new) ∙ counted in
    record {
      counted = counted;
      inside = λ r few. piece_of-pieces size many new (number_in in_chunk chunk r) (omega (arith, within r few, all)) ∙ wrote.inside r few;
      outside = λ p few off. was p few ∙ ap Some (sym (wrote.outside p off) ∙ sym (piece_of-pieces size many new p (omega (arith, few, all))));
    }

pub updated_array : (chunk : List ℕ) (in_chunk : Subset) (update : ℕ → Bytes) (before : ℕ → Option Bytes) (size many : ℕ) (old new : Bytes) (elements : Elements)
    → elements ≡ pieces size many new → ((p : ℕ) → p < count_of chunk → before p ≡ Some (piece size old p))
    → IsUpdated (count_of in_chunk.shape) (number_in in_chunk chunk) (piece size old) update (piece size new)
    → LiesIn in_chunk chunk → length elements ≡ count_of chunk → AreUpdated chunk in_chunk update before elements
updated_array chunk in_chunk update before size many old new elements is was wrote lies counted =
    subst (λ (xs : Elements). AreUpdated chunk in_chunk update before xs) (sym is)
    (updated_elements chunk in_chunk update before size many old new was wrote (λ r few. number_in_below in_chunk chunk r lies few) (ap length (sym is) ∙ counted))
