-- Where a cell lies, told axis by axis from the last.
use Rattle.std.proofs.Common.{◌≡◌, ℕ, ◌+◌, ◌/◌, ◌%◌, ◌^◌, ◌<◌, List, length, get_or, drop, refl, sym, ap, ◌∙◌, arith}
use Rattle.std.proofs.lemmas.List.{drop_all}
use Rattle.std.proofs.lemmas.List.Elements.{length_all_zip}
use Rattle.parts_row_major.specs.Numbering.{count_of, number_of, point_of}
use Rattle.parts_subsets.specs.Grid.{Divides, grid_of, subchunk_of, position_of, subchunk_number, position_number}
use Rattle.parts_row_major.proofs.NumberingLaws.{length-point_of, point_inside, both_positive}
use Rattle.parts_row_major.proofs.PointLaws.{AxisStep, axis_step, point_of_at}
use Rattle.parts_row_major.proofs.SubsetLaws.{get_or-zip_with, length-zip_with}
use Rattle.parts_subsets.proofs.GridLaws.{at_least, count-grid, length-grid, subchunk_of_inside, position_of_inside}

-- the axes of both
pub same_axes : (shape sub : List ℕ) → Divides sub shape → length sub ≡ length shape
same_axes shape sub divides = length_all_zip (λ part axis. axis % part ≡ 0) sub shape divides

module _ (number : ℕ) (shape sub : List ℕ) (inside : number < count_of shape) (fits : count_of shape < 2 ^ 64) (divides : Divides sub shape) where
  abbrev point : List ℕ
  point = point_of number shape

  both : (0 < count_of (grid_of shape sub)) × (0 < count_of sub)
  both = both_positive (count_of (grid_of shape sub)) (count_of sub) (omega (arith, inside, count-grid shape sub divides))

  grid_fits : count_of (grid_of shape sub) < 2 ^ 64
  grid_fits = omega (arith, fits, count-grid shape sub divides, at_least (count_of (grid_of shape sub)) (count_of sub) both.1)

  sub_fits : count_of sub < 2 ^ 64
  sub_fits = omega (arith, fits, count-grid shape sub divides, at_least (count_of sub) (count_of (grid_of shape sub)) both.0)

  module _ (i j rest : ℕ) (lt : i < length shape) (next : i + 1 ≡ j) (is : rest ≡ number / count_of (drop j shape)) where
    index_is : rest % get_or shape i 0 ≡ get_or point i 0
    index_is = ap (λ r. r % get_or shape i 0) is ∙ sym (point_of_at number shape i j inside lt next)

    -- one more axis of the subchunk's number
    pub subchunk_step : (stride so_far : ℕ) → stride ≡ count_of (drop j (grid_of shape sub)) → so_far ≡ number_of (drop j (subchunk_of point sub)) (drop j (grid_of shape sub))
        → AxisStep (subchunk_of point sub) (grid_of shape sub) i (rest % get_or shape i 0 / get_or sub i 0) stride so_far
    subchunk_step stride so_far stride_is known =
        axis_step (subchunk_of point sub) (grid_of shape sub) i j _ stride so_far (subchunk_of_inside point shape sub divides (point_inside number shape inside)) grid_fits
        (omega (arith, lt, length-grid shape sub divides)) next
        (ap (λ x. x / get_or sub i 0) index_is
        ∙ sym (get_or-zip_with ◌/◌ point sub i (omega (arith, lt, length-point_of number shape)) (omega (arith, lt, same_axes shape sub divides)))) stride_is known

    -- one more axis of the place's number
    pub position_step : (stride so_far : ℕ) → stride ≡ count_of (drop j sub) → so_far ≡ number_of (drop j (position_of point sub)) (drop j sub)
        → AxisStep (position_of point sub) sub i (rest % get_or shape i 0 % get_or sub i 0) stride so_far
    position_step stride so_far stride_is known =
        axis_step (position_of point sub) sub i j _ stride so_far (position_of_inside point shape sub divides (point_inside number shape inside)) sub_fits
        (omega (arith, lt, same_axes shape sub divides)) next
        (ap (λ x. x % get_or sub i 0) index_is
        ∙ sym (get_or-zip_with ◌%◌ point sub i (omega (arith, lt, length-point_of number shape)) (omega (arith, lt, same_axes shape sub divides)))) stride_is known

-- before the last axis
pub record LastAxes (number : ℕ) (shape sub : List ℕ) (i : ℕ) : Type 0 where
  pub rest_is : number ≡ number / count_of (drop i shape)
  pub subchunks_is : 1 ≡ count_of (drop i (grid_of shape sub))
  pub subchunk_is : 0 ≡ number_of (drop i (subchunk_of (point_of number shape) sub)) (drop i (grid_of shape sub))
  pub positions_is : 1 ≡ count_of (drop i sub)
  pub position_is : 0 ≡ number_of (drop i (position_of (point_of number shape) sub)) (drop i sub)

pub last_axes : (number : ℕ) (shape sub : List ℕ) → Divides sub shape → LastAxes number shape sub (length shape)
last_axes number shape sub divides =
    let point = point_of number shape in
    let long = same_axes shape sub divides in
    let whole = length-point_of number shape in
    let no_shape = drop_all (length shape) shape (omega arith) in
    let no_sub = drop_all (length shape) sub (omega (arith, long)) in
    let no_grid = drop_all (length shape) (grid_of shape sub) (omega (arith, length-grid shape sub divides)) in
    let no_subchunk = drop_all (length shape) (subchunk_of point sub) (omega (arith, length-zip_with ◌/◌ point sub (whole ∙ sym long), whole)) in
    let no_position = drop_all (length shape) (position_of point sub) (omega (arith, length-zip_with ◌%◌ point sub (whole ∙ sym long), whole)) in
    record {
      rest_is = rw no_shape (omega arith);
      subchunks_is = rw no_grid refl;
      subchunk_is = rw no_subchunk refl;
      positions_is = rw no_sub refl;
      position_is = rw no_position refl;
    }

-- after the first
pub all_subchunk : (number : ℕ) (shape sub : List ℕ) (i so_far : ℕ) → i ≡ 0 → so_far ≡ number_of (drop i (subchunk_of (point_of number shape) sub)) (drop i (grid_of shape sub)) → so_far ≡ subchunk_number shape sub number
unfolding subchunk_number
all_subchunk number shape sub i so_far first known = rw first at known

pub all_position : (number : ℕ) (shape sub : List ℕ) (i so_far : ℕ) → i ≡ 0 → so_far ≡ number_of (drop i (position_of (point_of number shape) sub)) (drop i sub) → so_far ≡ position_number shape sub number
unfolding position_number
all_position number shape sub i so_far first known = rw first at known
