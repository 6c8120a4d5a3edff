-- Subchunks whose elements lie in rows that are as far apart.
use Rattle.std.proofs.Common.{◌≡◌, ℕ, ◌+◌, ◌*◌, ◌/◌, ◌%◌, ◌^◌, ◌<◌, List, [], ◌∷◌, ◌≤◌, length, get_or, drop, refl, ap, sym, ◌∙◌, arith}
use Rattle.std.proofs.lemmas.List.{drop_more, get_or-drop, length-drop}
use Rattle.std.proofs.lemmas.Nat.{row_fits}
use Rattle.std.proofs.Math.Nat.{zero-div, zero-mod}
use Rattle.parts_row_major.specs.Numbering.{AllPositive, count_of, number_of, point_of, zip_with}
use Rattle.parts_row_major.specs.Subsets.{Subset, number_in}
use Rattle.parts_row_major.specs.Pieces.{IsUpdated}
use Rattle.parts_row_major.proofs.NumberingLaws.{count_positive, length-point_of}
use Rattle.parts_subsets.specs.Grid.{Divides, grid_of, cell_number, subset_of_subchunk}
use Rattle.parts_subsets.proofs.GridLaws.{at_least, cell_number-below, number_in-subset_of_subchunk, subset_of_subchunk-axes}
use Rattle.parts_subsets.proofs.SetLaws.{first_point}

-- the number of a sum of two points is the sum of their numbers
pub number_of-plus : (a b s : List ℕ) → length a ≡ length b → number_of (zip_with ◌+◌ a b) s ≡ number_of a s + number_of b s
number_of-plus [] [] s e = refl
number_of-plus [] (y ∷ ys) s e = absurd (omega arith)
number_of-plus (x ∷ xs) [] s e = absurd (omega arith)
number_of-plus (x ∷ xs) (y ∷ ys) [] e = refl
number_of-plus (x ∷ xs) (y ∷ ys) (n ∷ ns) e = omega (arith, number_of-plus xs ys ns (omega arith))

-- where the points of a subset lie, by where the subset begins
pub number_in-from : (subset : Subset) (shape : List ℕ) (i : ℕ) → length subset.start ≡ length subset.shape
    → number_in subset shape i ≡ number_of subset.start shape + number_of (point_of i subset.shape) shape
number_in-from subset shape i same = number_of-plus subset.start (point_of i subset.shape) shape (same ∙ sym (length-point_of i subset.shape))

-- one axis more of the number of a subchunk's first cell
pub first_more : (shape sub grid : List ℕ) (axis rest first total : ℕ) → axis < length shape → axis < length sub → axis < length grid
    → first * count_of (drop axis shape) + number_of (zip_with ◌*◌ (point_of rest (drop axis grid)) (drop axis sub)) (drop axis shape) ≡ total
    → (first * get_or shape axis 0 + rest / count_of (drop (axis + 1) grid) * get_or sub axis 0) * count_of (drop (axis + 1) shape)
    + number_of (zip_with ◌*◌ (point_of (rest % count_of (drop (axis + 1) grid)) (drop (axis + 1) grid)) (drop (axis + 1) sub)) (drop (axis + 1) shape) ≡ total
first_more shape sub grid axis rest first total in_shape in_sub in_grid e =
    let whole = rw (drop_more shape axis 0 in_shape, drop_more sub axis 0 in_sub, drop_more grid axis 0 in_grid) at e in
    omega (arith, whole)

-- what is left of a number that has all axes
pub first_small : (first count left total : ℕ) → 0 < count → first * count + left ≡ total → first ≤ total
first_small first count left total some e = omega (arith, at_least first count some, e)

-- the last axes of a shape without a zero have points
pub rest_positive_count : (shape : List ℕ) (i : ℕ) → AllPositive shape → 0 < count_of (drop i shape)
rest_positive_count shape i some = count_positive (drop i shape) (λ k lt. rw (get_or-drop i shape k 0) (some (i + k) 0 (omega (arith, length-drop i shape))))

-- the number of a subchunk's first cell is below the count
pub start_small : (shape sub : List ℕ) (k : ℕ) → Divides sub shape → count_of shape < 2 ^ 64 → k < count_of (grid_of shape sub) → 0 < count_of sub
    → number_of (zip_with ◌*◌ (point_of k (grid_of shape sub)) sub) shape < 2 ^ 64
start_small shape sub k divides fits below some =
    let subset = subset_of_subchunk shape sub k in
    let begins : number_of subset.start shape ≡ number_in subset shape 0 = ap (λ point. number_of point shape) (sym (first_point subset.start sub (subset_of_subchunk-axes shape sub k divides) some)) in
    omega (arith, begins, number_in-subset_of_subchunk shape sub k 0, cell_number-below shape sub divides k 0 below some, fits)

-- the first cell of the first subchunk is the first of all
none_before : (grid sub shape : List ℕ) → number_of (zip_with ◌*◌ (point_of 0 grid) sub) shape ≡ 0
none_before [] [] shape = refl
none_before [] (b ∷ bs) shape = refl
none_before (n ∷ ns) [] shape = refl
none_before (n ∷ ns) (b ∷ bs) [] = refl
none_before (n ∷ ns) (b ∷ bs) (s ∷ ss) = rw (zero-div (count_of ns), zero-mod (count_of ns)) (omega (arith, none_before ns bs ss))

-- the cells of a subchunk lie as those of the first, each as much further on as its first
pub moved_from_first : (shape sub : List ℕ) (k first p : ℕ) → Divides sub shape → first ≡ number_of (zip_with ◌*◌ (point_of k (grid_of shape sub)) sub) shape
    → cell_number shape sub k p ≡ first + number_in (subset_of_subchunk shape sub 0) shape p
moved_from_first shape sub k first p divides is =
    let here = number_in-from (subset_of_subchunk shape sub k) shape p (subset_of_subchunk-axes shape sub k divides) in
    let there = number_in-from (subset_of_subchunk shape sub 0) shape p (subset_of_subchunk-axes shape sub 0 divides) in
    omega (arith, number_in-subset_of_subchunk shape sub k p, here, there, none_before (grid_of shape sub) sub shape, is)

-- a cell of a subchunk lies within the bytes of the array
pub moved_inside : (shape sub : List ℕ) (k first p size : ℕ) {most : ℕ} → Divides sub shape → first ≡ number_of (zip_with ◌*◌ (point_of k (grid_of shape sub)) sub) shape
    → k < count_of (grid_of shape sub) → p < count_of sub → most ≡ count_of shape * size
    → (first + number_in (subset_of_subchunk shape sub 0) shape p) * size + size ≤ most
moved_inside shape sub k first p size divides is below lt whole =
    rw (← moved_from_first shape sub k first p divides is)
    (omega (arith, row_fits (cell_number shape sub k p) size (count_of shape) size (cell_number-below shape sub divides k p below lt) (omega arith), whole))

-- what is written at some positions is written at positions that are the same
pub updated_at : {many : ℕ} {position other : ℕ → ℕ} {old update new : ℕ → List ℕ} → ((k : ℕ) → other k ≡ position k) → IsUpdated many position old update new → IsUpdated many other old update new
updated_at {new = new} same wrote = record {
  inside = λ k lt. ap new (same k) ∙ wrote.inside k lt;
  outside = λ i h. wrote.outside i (λ k lt e. h k lt (same k ∙ e));
}
