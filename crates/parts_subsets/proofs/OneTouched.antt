-- A subset that lies in one subchunk.
use Rattle.std.proofs.Common.{◌≡◌, ◌∙◌, ℕ, ◌+◌, ◌/◌, ◌%◌, ◌^◌, ◌<◌, zero, suc, List, [], ◌∷◌, length, get_or, replicate, sym, refl, arith}
use Rattle.std.proofs.lemmas.List.{get_or-replicate, length-replicate}
use Rattle.std.proofs.lemmas.List.Elements.{length_all_zip}
use Rattle.parts_row_major.specs.Numbering.{count_of, number_of, point_of, AllPositive, IsInside}
use Rattle.parts_row_major.specs.Subsets.{Subset, IsSubset, LiesIn, numbers_in}
use Rattle.parts_row_major.proofs.SubsetLaws.{length-zip_with, lies_in_length, shifted_inside}
use Rattle.parts_row_major.proofs.NumberingLaws.{point_inside}
use Rattle.parts_subsets.specs.Grid.{Divides, grid_of}
use Rattle.parts_subsets.specs.Touched.{AreTouched, IsOneAlong, IsTouchedSubset}
use Rattle.parts_subsets.proofs.SetLaws.{first_point}
use Rattle.parts_subsets.proofs.TouchedLaws.{touched_whole, are_touched, touched_below, touched_lies_in}

count_ones : (n : ℕ) → count_of (replicate n 1) ≡ 1
count_ones zero = refl
count_ones (suc n) = omega (arith, count_ones n)

-- as many axes
pub only_axes : (shape sub : List ℕ) (subset : Subset) → Divides sub shape → IsSubset subset.start subset.shape → LiesIn subset shape → length subset.start ≡ length sub
only_axes shape sub subset divides well inside =
    let lengths = length_all_zip (λ first len. first + len < 2 ^ 64) subset.start subset.shape well in
    lies_in_length subset.start subset.shape shape lengths inside ∙ sym (length_all_zip (λ part axis. axis % part ≡ 0) sub shape divides)

module _ (shape sub : List ℕ) (subset : Subset) (sub_positive : AllPositive sub) (divides : Divides sub shape) (well : IsSubset subset.start subset.shape) (inside : LiesIn subset shape)
    (one : (k : ℕ) → k < length subset.start → IsOneAlong (get_or subset.start k 0) (get_or subset.shape k 0) (get_or sub k 0)) where
  axes : length subset.start ≡ length sub
  axes = only_axes shape sub subset divides well inside

  abbrev touched : Subset
  touched = record { start = grid_of subset.start sub; shape = replicate (length subset.start) 1 }

  is_touched : IsTouchedSubset subset sub touched
  is_touched = touched_whole subset sub (length subset.start) (replicate (length subset.start) 1) axes refl (record {
    lengths = length-replicate {A = ℕ} (length subset.start) 1;
    none = λ k lt none. absurd (omega (arith, (one k lt).0, none));
    ends = λ k lt some. rw (get_or-replicate {A = ℕ} (length subset.start) k 1 0 lt) (omega (arith, (one k lt).1));
  })

  is_only : number_of (grid_of subset.start sub) (grid_of shape sub) ∷ [] ≡ numbers_in touched (grid_of shape sub)
  is_only =
      let n = length subset.start in
      let same : length (grid_of subset.start sub) ≡ length (replicate {A = ℕ} n 1) = length-zip_with ◌/◌ subset.start sub axes ∙ sym (length-replicate {A = ℕ} n 1) in
      let first = first_point (grid_of subset.start sub) (replicate n 1) same (omega (arith, count_ones n)) in
      rw (count_ones n) (rw first refl)

  -- it touches that alone
  pub only_touched : AreTouched shape sub subset (number_of (grid_of subset.start sub) (grid_of shape sub) ∷ [])
  only_touched = are_touched shape sub subset touched is_touched sub_positive divides well inside _ is_only

  pub only_below : number_of (grid_of subset.start sub) (grid_of shape sub) < count_of (grid_of shape sub)
  only_below = touched_below shape sub subset touched is_touched sub_positive divides well inside _ is_only 0 0 (omega arith)

  -- the subchunk of its first point is in the grid
  pub only_inside : IsInside (grid_of subset.start sub) (grid_of shape sub)
  only_inside =
      let n = length subset.start in
      let same : length (grid_of subset.start sub) ≡ length (replicate {A = ℕ} n 1) = length-zip_with ◌/◌ subset.start sub axes ∙ sym (length-replicate {A = ℕ} n 1) in
      let some : 0 < count_of (replicate n 1) = omega (arith, count_ones n) in
      rw (first_point (grid_of subset.start sub) (replicate n 1) same some)
      at (shifted_inside (grid_of subset.start sub) (replicate n 1) (point_of 0 (replicate n 1)) (grid_of shape sub) (point_inside 0 (replicate n 1) some) (touched_lies_in shape sub subset touched is_touched sub_positive divides well inside))
