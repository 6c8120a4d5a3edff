-- Subchunks that follow one another in their shape.
use Rattle.std.proofs.Common.{◌≡◌, ℕ, ◌+◌, ◌*◌, ◌/◌, ◌%◌, ◌<◌, List, [], ◌∷◌, length, map, get_or, drop, refl, sym, ap, subst, ◌∙◌, arith}
use Rattle.std.specs.List.{range_with_len}
use Rattle.std.proofs.lemmas.List.{ext_get_or}
use Rattle.std.proofs.lemmas.List.FromFn.{get_or-map-range_with_len, length-map-range_with_len}
use Rattle.std.proofs.lemmas.Nat.{mod_below, div-add-mod'}
use Rattle.std.proofs.Math.Nat.{div-eq_of_eq-mul_left}
use Rattle.parts_row_major.specs.Numbering.{count_of, point_of, zip_with}
use Rattle.parts_row_major.specs.Subsets.{number_in}
use Rattle.parts_subsets.specs.Grid.{Divides, grid_of, subset_of_subchunk, subchunk}
use Rattle.parts_row_major.proofs.NumberingLaws.{point_inside, both_positive, length-point_of}
use Rattle.parts_row_major.proofs.SubsetLaws.{length-zip_with}
use Rattle.parts_row_major.proofs.RunLaws.{whole_number}
use Rattle.parts_subsets.proofs.GridLaws.{count-grid, length-grid, corner_lies_in, length-subchunk, get_or-subchunk, number_in-subset_of_subchunk}

-- where all axes but the first are whole, the cells of a subchunk follow one another, and so do the subchunks
contiguous_cons : (n m : ℕ) (ns : List ℕ) (k p : ℕ) → Divides (m ∷ ns) (n ∷ ns) → 0 < n * count_of ns
    → number_in (subset_of_subchunk (n ∷ ns) (m ∷ ns) k) (n ∷ ns) p ≡ k * (m * count_of ns) + p
contiguous_cons n m ns k p divides some =
    let g = grid_of ns ns in
    let c = count_of ns in
    let positive = both_positive n c some in
    let one : count_of g ≡ 1 = sym (div-eq_of_eq-mul_left positive.1 (count-grid ns ns divides.1)) ∙ div-eq_of_eq-mul_left positive.1 (omega arith) in
    let whole_k : k / 1 ≡ k = omega (arith, div-add-mod' k 1) in
    let at : k / count_of g ≡ k = ap (λ d. k / d) one ∙ whole_k in
    let inside = point_inside (k % count_of g) g (mod_below k (count_of g) (omega (arith, one))) in
    let start = zip_with ◌*◌ (point_of (k % count_of g) g) ns in
    let same : length (point_of (k % count_of g) g) ≡ length ns = length-point_of (k % count_of g) g ∙ length-grid ns ns divides.1 in
    let long : length start ≡ length ns = length-zip_with ◌*◌ (point_of (k % count_of g) g) ns same ∙ same in
    let whole = whole_number ((k / count_of g) * m) p start ns long (corner_lies_in (point_of (k % count_of g) g) ns ns divides.1 inside) positive.1 in
    whole ∙ (ap (λ x. (x * m) * c + p) at ∙ omega arith)

pub contiguous_number : (shape sub : List ℕ) (k p : ℕ) → Divides sub shape → drop 1 shape ≡ drop 1 sub → 0 < length shape → 0 < count_of shape
    → number_in (subset_of_subchunk shape sub k) shape p ≡ k * count_of sub + p
contiguous_number [] sub k p divides same axes some = absurd (omega arith)
contiguous_number (n ∷ ns) [] k p divides same axes some = elim divides [ ]
contiguous_number (n ∷ ns) (m ∷ ms) k p divides same axes some =
    let Holds : List ℕ → Type 0 = λ rest. Divides (m ∷ rest) (n ∷ ns) → number_in (subset_of_subchunk (n ∷ ns) (m ∷ rest) k) (n ∷ ns) p ≡ k * (m * count_of rest) + p in
    subst Holds same (λ h. contiguous_cons n m ns k p h some) divides

-- so the elements of a subchunk follow one another
pub subchunk_follows : (shape sub : List ℕ) (elements : List (List ℕ)) (k : ℕ) → Divides sub shape → drop 1 shape ≡ drop 1 sub → 0 < length shape → 0 < count_of shape
    → subchunk shape sub elements k ≡ map (λ i. get_or elements i []) (range_with_len (k * count_of sub) (count_of sub))
subchunk_follows shape sub elements k divides same axes some =
    let f : ℕ → List ℕ = λ i. get_or elements i [] in
    let positions = count_of sub in
    let from = k * positions in
    ext_get_or [] (subchunk shape sub elements k) (map f (range_with_len from positions)) (length-subchunk shape sub elements k ∙ sym (length-map-range_with_len f from positions)) (λ p below.
    let lp : p < positions = omega (arith, length-subchunk shape sub elements k) in
    get_or-subchunk shape sub elements k p [] lp
    ∙ (ap f (sym (number_in-subset_of_subchunk shape sub k p) ∙ contiguous_number shape sub k p divides same axes some)
    ∙ sym (get_or-map-range_with_len f from positions p (from + p) [] lp refl)))
