-- A chunk of the elements that an array has from an origin on.
use Rattle.std.proofs.Common.{◌≡◌, ◌+◌, ◌∙◌, ℕ, List, [], ◌∷◌, Option, refl, sym, ap, arith}
use Rattle.parts_errors.specs.Words.{Bytes}
use Rattle.parts_row_major.specs.Numbering.{point_of, zip_with}
use Rattle.parts_row_major.specs.Subsets.{Subset}
use Rattle.array_creation.specs.NewChunks.{IsChunkOfSubset, moved_by}

-- sums of three lists, number by number
sums_of_three : (xs ys zs : List ℕ) → zip_with ◌+◌ (zip_with ◌+◌ xs ys) zs ≡ zip_with ◌+◌ xs (zip_with ◌+◌ ys zs)
sums_of_three [] ys zs = refl
sums_of_three (x ∷ xs) [] zs = refl
sums_of_three (x ∷ xs) (y ∷ ys) [] = refl
sums_of_three (x ∷ xs) (y ∷ ys) (z ∷ zs) =
    let here : (x + y) + z ≡ x + (y + z) = omega arith in
    ap (λ n. n ∷ zip_with ◌+◌ (zip_with ◌+◌ xs ys) zs) here ∙ ap (λ rest. (x + (y + z)) ∷ rest) (sums_of_three xs ys zs)

-- the chunk of a part that is moved has the elements that stand so much further on
pub chunk_of_moved : (element : List ℕ → Option Bytes) (origin : List ℕ) (part subset : Subset) (encodings : List Bytes → Bytes → Type 0) (fill : Bytes) (chunk : List ℕ)
    (object : Option Bytes) → subset ≡ moved_by origin part → IsChunkOfSubset element subset encodings fill chunk object
    → IsChunkOfSubset (λ point. element (zip_with ◌+◌ origin point)) part encodings fill chunk object
chunk_of_moved element origin part subset encodings fill chunk object is whole =
    let moved : IsChunkOfSubset element (moved_by origin part) encodings fill chunk object = rw is at whole in
    record {
      cells = moved.cells;
      read = λ q lt. ap element (sym (sums_of_three origin part.start (point_of q part.shape))) ∙ moved.read q lt;
      stored = moved.stored;
    }
