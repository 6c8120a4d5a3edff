-- In each order every number stands once, so that sums and places are those of the ascending order.
use Rattle.std.proofs.Common.{◌≡◌, inl, inr, ℕ, ◌+◌, ◌<◌, ◌≤◌, Bool, true, false, not, eqb, ◌==◌, if◌then◌else◌, List, [], ◌∷◌, length, get_or, take, sym, ap, ◌∙◌, arith, IsPermutation}
use Rattle.std.specs.List.{All, Contains, range_with_len, IsDistinct}
use Rattle.std.proofs.lemmas.Bool.{false≢true}
use Rattle.std.proofs.lemmas.Bool.Decides.{eqb_tells}
use Rattle.std.proofs.lemmas.List.{get_or_default, map-id}
use Rattle.std.proofs.lemmas.List.FromFn.{length-range_with_len, get_or-range_with_len, take-map-range_with_len}
use Rattle.std.proofs.lemmas.List.Elements.{All-from_get_or, All-get_or}
use Rattle.std.proofs.lemmas.List.Sorted.{IsPermutation-refl, IsPermutation-cons, IsPermutation-trans, IsPermutation-middle, length_permutation, All-permutation, Contains-permutation}
use Rattle.std.proofs.lemmas.List.Sums.{prefix_len_is}
use Rattle.std.proofs.lemmas.Map.Keys.{IsDistinct-from_apart, IsDistinct-IsPermutation, apart_from_distinct}
use Rattle.std.proofs.lemmas.Cmp.{nat_eq_equiv}
use Rattle.parts_row_major.specs.Numbering.{count_of, point_of}
use Rattle.sharding_format.specs.WriteOrder.{put_in, sorted_by, numbers_in_order, numbers_before, is_before}
use Rattle.sharding_format.specs.declared.order.SubchunkWriteOrder.{SubchunkWriteOrder}
use Rattle.sharding_format.specs.declared.order.SubchunkWriteOrder.TheVariants.{C, Unordered, Morton}

put_in_permutes : (before : ℕ → ℕ → Bool) (k : ℕ) (js : List ℕ) → IsPermutation (k ∷ js) (put_in before k js)
put_in_permutes before k [] = IsPermutation-refl (k ∷ [])
put_in_permutes before k (j ∷ js) =
    elim (before k j) as (λ t. IsPermutation (k ∷ j ∷ js) (if t then k ∷ j ∷ js else j ∷ put_in before k js)) [
      | true ↦ IsPermutation-refl (k ∷ j ∷ js)
      | false ↦ IsPermutation-trans (k ∷ j ∷ js) (j ∷ k ∷ js) (j ∷ put_in before k js) (IsPermutation-middle (k ∷ []) j js)
          (IsPermutation-cons j (k ∷ js) (put_in before k js) (put_in_permutes before k js))
    ]

pub sorted_by_permutes : (before : ℕ → ℕ → Bool) (ks : List ℕ) → IsPermutation ks (sorted_by before ks)
sorted_by_permutes before [] = IsPermutation-refl []
sorted_by_permutes before (k ∷ ks) =
    IsPermutation-trans (k ∷ ks) (k ∷ sorted_by before ks) (put_in before k (sorted_by before ks))
    (IsPermutation-cons k ks (sorted_by before ks) (sorted_by_permutes before ks)) (put_in_permutes before k (sorted_by before ks))

-- an order has each number below the count of the grid
pub order_permutes : (order : SubchunkWriteOrder) (grid : List ℕ) →
    IsPermutation (range_with_len 0 (count_of grid)) (numbers_in_order order grid)
unfolding numbers_in_order
order_permutes C grid = IsPermutation-refl (range_with_len 0 (count_of grid))
order_permutes Unordered grid = IsPermutation-refl (range_with_len 0 (count_of grid))
order_permutes Morton grid = sorted_by_permutes (λ j k. is_before (point_of j grid) (point_of k grid)) (range_with_len 0 (count_of grid))

-- ---- what this says of a list
eqb_flips : (x y : ℕ) → eqb x y ≡ eqb y x
eqb_flips x y = nat_eq_equiv.symm x y

range_distinct : (n : ℕ) → IsDistinct eqb (range_with_len 0 n)
range_distinct n =
    IsDistinct-from_apart eqb (range_with_len 0 n) (λ i j d before below.
    let j_in : j < n = omega (arith, length-range_with_len 0 n) in
    let here = get_or-range_with_len 0 n i d (omega arith) in
    let there = get_or-range_with_len 0 n j d j_in in
    elim (eqb_tells (get_or (range_with_len 0 n) i d) (get_or (range_with_len 0 n) j d))
    [ inl same ↦ absurd (omega (arith, same.1, here, there)) | inr other ↦ other.0 ])

pub order_counted : (n : ℕ) (order : List ℕ) → IsPermutation (range_with_len 0 n) order → length order ≡ n
order_counted n order h = length_permutation (range_with_len 0 n) order h ∙ length-range_with_len 0 n

pub order_below : (n : ℕ) (order : List ℕ) (i : ℕ) → IsPermutation (range_with_len 0 n) order → i < n → get_or order i 0 < n
order_below n order i h below =
    let each : All (λ k. k < n) (range_with_len 0 n) = All-from_get_or (λ k. k < n) (range_with_len 0 n) 0 (λ j lt.
    omega (arith, get_or-range_with_len 0 n j 0 (omega (arith, length-range_with_len 0 n)), length-range_with_len 0 n)) in
    All-get_or (λ k. k < n) order i 0 (omega (arith, order_counted n order h))
    (All-permutation (λ k. k < n) (range_with_len 0 n) order h each)

plain : (k : ℕ) → 0 + k ≡ k
plain k = omega arith

-- where a number stands
pub record StandsIn (order : List ℕ) (k : ℕ) : Type 0 where
  pub position : ℕ
  pub inside : position < length order
  pub is : get_or order position 0 ≡ k

pub order_has : (n : ℕ) (order : List ℕ) (k : ℕ) → IsPermutation (range_with_len 0 n) order → k < n → StandsIn order k
order_has n order k h below =
    let in_range : Contains (range_with_len 0 n) k =
    (k, omega (arith, length-range_with_len 0 n), get_or-range_with_len 0 n k k below ∙ plain k) in
    let found = Contains-permutation (range_with_len 0 n) order k h in_range in
    record { position = found.0; inside = found.1; is = get_or_default order found.0 0 k found.1 ∙ found.2 }

-- no number stands twice
pub order_differs : (n : ℕ) (order : List ℕ) (i j : ℕ) → IsPermutation (range_with_len 0 n) order → i < j → j < n
    → ¬ (get_or order i 0 ≡ get_or order j 0)
order_differs n order i j h before below same =
    let apart = apart_from_distinct eqb order i j 0
    (IsDistinct-IsPermutation eqb eqb_flips (range_with_len 0 n) order h (range_distinct n)) before
    (omega (arith, order_counted n order h)) in
    elim (eqb_tells (get_or order i 0) (get_or order j 0)) [ inl equal ↦ false≢true (sym apart ∙ equal.0) | inr other ↦ other.1 same ]

-- those before the number at a place are the ones at the places before it
pub before_at : (n : ℕ) (order : List ℕ) (i k : ℕ) → IsPermutation (range_with_len 0 n) order → i < n → get_or order i 0 ≡ k
    → numbers_before k order ≡ take i order
before_at n order i k h below is =
    ap (λ m. take m order) (prefix_len_is (λ j. not (j == k)) order i 0 (omega (arith, order_counted n order h))
    (λ j lt. elim (eqb_tells (get_or order j 0) k)
    [ inl same ↦ absurd (order_differs n order j i h lt below (same.1 ∙ sym is)) | inr other ↦ ap not other.0 ])
    (λ inside. elim (eqb_tells (get_or order i 0) k) [ inl same ↦ ap not same.0 | inr other ↦ absurd (other.1 is) ]))

pub take-range : (n k : ℕ) → k ≤ n → take k (range_with_len 0 n) ≡ range_with_len 0 k
take-range n k upto =
    ap (take k) (sym (map-id (range_with_len 0 n))) ∙ take-map-range_with_len (λ (x : ℕ). x) 0 n k upto ∙ map-id (range_with_len 0 k)

-- in the ascending order those before a number are the lower ones
pub before_in_range : (n k : ℕ) → k < n → numbers_before k (range_with_len 0 n) ≡ range_with_len 0 k
before_in_range n k below =
    before_at n (range_with_len 0 n) k k (IsPermutation-refl (range_with_len 0 n)) below (get_or-range_with_len 0 n k 0 below ∙ plain k)
    ∙ take-range n k (omega arith)
