-- The points of a shape that a subset misses.
use Rattle.std.proofs.Common.{◌≡◌, ℕ, zero, suc, ◌+◌, ◌-◌, ◌^◌, ◌<◌, List, length, get_or, ap, ◌∙◌, arith, inl, inr}
use mathlib.Core.Logic.{◌⊎◌}
use Rattle.std.proofs.lemmas.List.{ext_get_or}
use Rattle.std.proofs.lemmas.List.Elements.{length_all_zip}
use Rattle.std.proofs.lemmas.Bool.{cases_lt}
use Rattle.parts_row_major.specs.Numbering.{count_of, IsInside, number_of, point_of, zip_with}
use Rattle.parts_row_major.specs.Subsets.{Subset, IsSubset, LiesIn, point_in, number_in}
use Rattle.parts_subsets.specs.Laws.{IsOnAxis, IsElsewhere}
use Rattle.parts_row_major.proofs.NumberingLaws.{number_below, point_inside, point_of-number_of, same_from_number, below_axis, length-point_of}
use Rattle.parts_row_major.proofs.SubsetLaws.{all_zip_from_each, length-zip_with, get_or-zip_with, shifted_inside, lies_in_length}

-- a subset has a point on every axis, or misses it on one
pub on_or_off : (subset : Subset) (point : List ℕ) (n : ℕ) → ((axis : ℕ) → axis < n → IsOnAxis subset point axis) ⊎ ((axis : ℕ) × (axis < n) × ¬ IsOnAxis subset point axis)
on_or_off subset point zero = inl (λ axis lt. absurd (omega arith))
on_or_off subset point (suc n) = elim (on_or_off subset point n) [
  | inr off ↦ inr (off.0, omega (arith, off.1), off.2)
  | inl on ↦ elim (cases_lt (get_or point n 0) (get_or subset.start n 0)) [
    | inl below ↦ inr (n, omega arith, λ h. absurd (omega (arith, h.0)))
    | inr ge ↦ elim (cases_lt (get_or point n 0) (get_or subset.start n 0 + get_or subset.shape n 0)) [
      | inr past ↦ inr (n, omega arith, λ h. absurd (omega (arith, h.1)))
      | inl lt ↦ inl (λ axis small. elim (cases_lt axis n) [
        | inl before ↦ on axis before
        | inr last ↦ let e : n ≡ axis = omega arith in rw (← e) (ge, lt)
      ])
    ]
  ]
]

module _ (subset : Subset) (shape : List ℕ) (well : IsSubset subset.start subset.shape) (inside : LiesIn subset shape) where
  same_axes : length subset.start ≡ length subset.shape
  same_axes = length_all_zip (λ first len. first + len < 2 ^ 64) subset.start subset.shape well

  all_axes : length subset.start ≡ length shape
  all_axes = lies_in_length subset.start subset.shape shape same_axes inside

  -- a point that the subset has on every axis has a place
  pub position_of_point : (point : List ℕ) → IsInside point shape → ((axis : ℕ) → axis < length shape → IsOnAxis subset point axis) → (k : ℕ) × (k < count_of subset.shape) × (number_in subset shape k ≡ number_of point shape)
  position_of_point point h on =
      let long = length_all_zip (λ x axis. x < axis) point shape h in
      let back = zip_with ◌-◌ point subset.start in
      let width : length back ≡ length point = length-zip_with ◌-◌ point subset.start (omega (arith, long, all_axes)) in
      let at : (i : ℕ) → i < length shape → get_or back i 0 ≡ get_or point i 0 - get_or subset.start i 0 = λ i lt. get_or-zip_with ◌-◌ point subset.start i (omega (arith, long)) (omega (arith, all_axes)) in
      let below : IsInside back subset.shape =
      all_zip_from_each (λ x axis. x < axis) back subset.shape (omega (arith, width, long, all_axes, same_axes))
      (λ i lt. omega (arith, at i (omega (arith, width, long)), (on i (omega (arith, width, long))).0, (on i (omega (arith, width, long))).1)) in
      let forth : zip_with ◌+◌ subset.start back ≡ point =
      ext_get_or 0 (zip_with ◌+◌ subset.start back) point (length-zip_with ◌+◌ subset.start back (omega (arith, width, long, all_axes)) ∙ (omega (arith, long, all_axes)))
      (λ i lt.
      let small : i < length shape = omega (arith, lt, length-zip_with ◌+◌ subset.start back (omega (arith, width, long, all_axes)), all_axes) in
      get_or-zip_with ◌+◌ subset.start back i (omega (arith, small, all_axes)) (omega (arith, small, width, long)) ∙ (omega (arith, at i small, (on i small).0))) in
      let here : point_in subset (number_of back subset.shape) ≡ point = ap (zip_with ◌+◌ subset.start) (point_of-number_of back subset.shape below) ∙ forth in
      (number_of back subset.shape, number_below back subset.shape below, ap (λ c. number_of c shape) here)

  -- a place's point is one that the subset has on every axis
  pub on_every_axis : (k : ℕ) → k < count_of subset.shape → (axis : ℕ) → axis < length shape → IsOnAxis subset (point_in subset k) axis
  on_every_axis k lt axis small =
      let at = get_or-zip_with ◌+◌ subset.start (point_of k subset.shape) axis (omega (arith, all_axes)) (omega (arith, all_axes, same_axes, length-point_of k subset.shape)) in
      let below = below_axis (point_of k subset.shape) subset.shape axis (point_inside k subset.shape lt) (omega (arith, all_axes, same_axes)) in
      (omega (arith, at), omega (arith, at, below))

  pub elsewhere_from_off : (point : List ℕ) (axis : ℕ) → IsInside point shape → axis < length shape → ¬ IsOnAxis subset point axis → IsElsewhere subset shape (number_of point shape)
  elsewhere_from_off point axis h small off = λ k lt e.
      let here = shifted_inside subset.start subset.shape (point_of k subset.shape) shape (point_inside k subset.shape lt) inside in
      let same : point_in subset k ≡ point = same_from_number (point_in subset k) point shape here h e in
      off (rw same at (on_every_axis k lt axis small))

  pub off_from_elsewhere : (point : List ℕ) → IsInside point shape → IsElsewhere subset shape (number_of point shape) → (axis : ℕ) × (axis < length shape) × ¬ IsOnAxis subset point axis
  off_from_elsewhere point h none = elim (on_or_off subset point (length shape)) [
    | inl on ↦ let k = position_of_point point h on in absurd (none k.0 k.1 k.2)
    | inr off ↦ off
  ]
