-- Orders of axes, and what they and their inverses do to coordinates and cells.
use Rattle.std.proofs.Common.{◌≡◌, ℕ, ◌<◌, ◌≤◌, ◌&&◌, true, false, Bool, List, [], Some, None}
use Rattle.std.proofs.Common.{length, map, get_or, refl, sym, ap, ◌∙◌, eqb, eq-eqb, zero-add, subst, arith}
use Rattle.std.specs.List.{range_with_len}
use Rattle.std.proofs.lemmas.Bool.{ltb-true, eqb-true}
use Rattle.std.proofs.lemmas.List.{length-map, get_or-map, ext_get_or}
use Rattle.std.proofs.lemmas.List.FromFn.{length-range_with_len, get_or-range_with_len}
use Rattle.std.proofs.lemmas.List.FromFn.{length-map-range_with_len, get_or-map-range_with_len}
use Rattle.std.proofs.lemmas.List.Folds.{list_any_at}
use Rattle.std.proofs.lemmas.List.Sums.{AllPass-from_list_all}
use Rattle.std.proofs.lemmas.Map.Steps.{le-length_from_below}
use Rattle.parts_row_major.specs.Numbering.{count_of, number_of, point_of, IsInside}
use Rattle.parts_row_major.proofs.NumberingLaws.{number_below, length-point_of, point_inside}
use Rattle.parts_row_major.proofs.NumberingLaws.{point_of-number_of, number_of-point_of, below_axis}
use Rattle.parts_row_major.proofs.SubsetLaws.{all_zip_from_each}
use Rattle.array_codecs.specs.AxisOrders.{inverse_of, is_undone, are_undone, is_order, permuted, number_moved, transposed}

-- an order that another one undoes
pub record IsUndone (order inverse : List ℕ) : Type 0 where
  pub alike : length inverse ≡ length order
  pub within : (i : ℕ) → i < length order → get_or order i 0 < length order
  pub back : (i : ℕ) → i < length order → get_or inverse (get_or order i 0) 0 ≡ i

-- an order that some other one undoes, and which undoes this
pub record IsPermutation (order : List ℕ) : Type 0 where
  pub inverse : List ℕ
  pub undone : IsUndone order inverse
  pub undoes : IsUndone inverse order

both_left : (a b : Bool) → (a && b) ≡ true → a ≡ true
both_left true b h = refl
both_left false b h = cc

both_right : (a b : Bool) → (a && b) ≡ true → b ≡ true
both_right true b h = h
both_right false b h = cc

pub length-inverse_of : (order : List ℕ) → length (inverse_of order) ≡ length order
length-inverse_of order = length-map-range_with_len _ 0 (length order)

each_place : (order : List ℕ) (i : ℕ) → is_order order ≡ true → i < length order
    → are_undone order (inverse_of order) i ≡ true
each_place order i h lt =
    let places = range_with_len 0 (length order) in
    let each = AllPass-from_list_all (are_undone order (inverse_of order)) places h in
    let here : get_or places i 0 ≡ i = get_or-range_with_len 0 (length order) i 0 lt ∙ zero-add i in
    subst (λ (place : ℕ). are_undone order (inverse_of order) place ≡ true) here
    (each i 0 (omega (arith, length-range_with_len 0 (length order))))

undone_from : (order inverse : List ℕ) → length inverse ≡ length order → ((i : ℕ) → i < length order
    → is_undone order inverse i ≡ true) → IsUndone order inverse
undone_from order inverse alike each = record {
  alike = alike;
  within = λ i lt. ltb-true _ _ (both_left _ _ (each i lt));
  back = λ i lt. eqb-true _ _ (both_right _ _ (each i lt));
}

-- an order of axes and its inverse undo one another
pub order_undone : (order : List ℕ) → is_order order ≡ true → IsUndone order (inverse_of order)
order_undone order h = undone_from order (inverse_of order) (length-inverse_of order) (λ i lt. both_left _ _ (each_place order i h lt))

pub inverse_undone : (order : List ℕ) → is_order order ≡ true → IsUndone (inverse_of order) order
inverse_undone order h =
    undone_from (inverse_of order) order (sym (length-inverse_of order)) (λ i lt. both_right _ _ (each_place order i h (omega
    (arith, length-inverse_of order))))

pub order_permutation : (order : List ℕ) → is_order order ≡ true → IsPermutation order
order_permutation order h = record { inverse = inverse_of order; undone = order_undone order h; undoes = inverse_undone order h }

pub inverse_permutation : (order : List ℕ) → is_order order ≡ true → IsPermutation (inverse_of order)
inverse_permutation order h = record { inverse = order; undone = inverse_undone order h; undoes = order_undone order h }

pub permuted_at : (order numbers : List ℕ) (i : ℕ) → i < length order
    → get_or (permuted order numbers) i 0 ≡ get_or numbers (get_or order i 0) 0
permuted_at order numbers i lt = get_or-map (λ axis. get_or numbers axis 0) order i 0 0 lt

pub length-permuted : (order numbers : List ℕ) → length (permuted order numbers) ≡ length order
length-permuted order numbers = length-map order (λ axis. get_or numbers axis 0)

-- a coordinate inside a shape lies inside the transposed one
pub permuted_inside : (order inverse point shape : List ℕ) → IsUndone order inverse → length shape ≡ length order → IsInside point shape
    → IsInside (permuted order point) (permuted order shape)
permuted_inside order inverse point shape undone axes inside =
    all_zip_from_each (λ x axis. x < axis) (permuted order point) (permuted order shape) (length-permuted order point
    ∙ sym (length-permuted order shape)) (λ k lt.
    let place : k < length order = omega (arith, length-permuted order point) in
    rw (permuted_at order point k place, permuted_at order shape k place)
    (below_axis point shape (get_or order k 0) inside (omega (arith, undone.within k place))))

-- numbers in an order, and then in its inverse, are as they were
pub permuted_back : (order inverse numbers : List ℕ) → IsUndone inverse order → length numbers ≡ length order
    → permuted inverse (permuted order numbers) ≡ numbers
permuted_back order inverse numbers undone axes =
    let long : length (permuted inverse (permuted order numbers)) ≡ length inverse = length-permuted inverse (permuted order numbers) in
    let same : length order ≡ length inverse = undone.alike in
    ext_get_or 0 (permuted inverse (permuted order numbers)) numbers (omega (arith, long)) (λ i lt.
    let place : i < length inverse = omega (arith, long) in
    let at : get_or inverse i 0 < length order = omega (arith, undone.within i place) in
    permuted_at inverse (permuted order numbers) i place ∙ (permuted_at order numbers (get_or inverse i 0) at
    ∙ ap (λ axis. get_or numbers axis 0) (undone.back i place)))

-- the number of an element in the transposed array is one of its numbers
pub moved_below : (order inverse shape : List ℕ) (i : ℕ) → IsUndone order inverse → length shape ≡ length order → i < count_of shape
    → number_moved order shape i < count_of (permuted order shape)
moved_below order inverse shape i undone axes lt =
    number_below (permuted order (point_of i shape)) (permuted order shape) (permuted_inside order inverse
    (point_of i shape) shape undone axes (point_inside i shape lt))

-- and the inverse leads back
pub moved_back : (order inverse shape : List ℕ) (i : ℕ) → IsUndone order inverse → IsUndone inverse order → length shape ≡ length order
    → i < count_of shape
    → number_moved inverse (permuted order shape) (number_moved order shape i) ≡ i
moved_back order inverse shape i undone undoes axes lt =
    let point = point_of i shape in
    let inside = permuted_inside order inverse point shape undone axes (point_inside i shape lt) in
    let there : point_of (number_moved order shape i) (permuted order shape) ≡ permuted order point =
    point_of-number_of (permuted order point) (permuted order shape) inside in
    let again : permuted inverse (permuted order point) ≡ point = permuted_back order inverse point undoes (length-point_of i shape
    ∙ axes) in
    let shape_again : permuted inverse (permuted order shape) ≡ shape = permuted_back order inverse shape undoes axes in
    ap (λ q. number_of (permuted inverse q) (permuted inverse (permuted order shape))) there
    ∙ (ap (λ q. number_of q (permuted inverse (permuted order shape))) again
    ∙ (ap (number_of point) shape_again ∙ number_of-point_of i shape lt))

-- no two elements have one number in the transposed array
pub moved_apart : (order inverse shape : List ℕ) (i j : ℕ) → IsUndone order inverse → IsUndone inverse order
    → length shape ≡ length order → i < count_of shape → j < count_of shape
    → number_moved order shape i ≡ number_moved order shape j → i ≡ j
moved_apart order inverse shape i j undone undoes axes below_i below_j same =
    sym (moved_back order inverse shape i undone undoes axes below_i)
    ∙ (ap (number_moved inverse (permuted order shape)) same ∙ moved_back order inverse shape j undone undoes axes below_j)

-- from the other side: the number that the inverse gives leads to where it came from
pub moved_forth : (order inverse shape : List ℕ) (j : ℕ) → IsUndone order inverse → IsUndone inverse order
    → length shape ≡ length order → j < count_of (permuted order shape)
    → number_moved order shape (number_moved inverse (permuted order shape) j) ≡ j
moved_forth order inverse shape j undone undoes axes lt =
    let other = permuted order shape in
    let long : length other ≡ length inverse = length-permuted order shape ∙ undoes.alike in
    let shape_again : permuted inverse other ≡ shape = permuted_back order inverse shape undoes axes in
    ap (λ s. number_moved order s (number_moved inverse other j)) (sym shape_again) ∙ moved_back inverse order other j undoes undone long lt

pub moved_from_below : (order inverse shape : List ℕ) (j : ℕ) → IsUndone order inverse → IsUndone inverse order
    → length shape ≡ length order → j < count_of (permuted order shape)
    → number_moved inverse (permuted order shape) j < count_of shape
moved_from_below order inverse shape j undone undoes axes lt =
    let other = permuted order shape in
    let long : length other ≡ length inverse = length-permuted order shape ∙ undoes.alike in
    let below : number_moved inverse other j < count_of (permuted inverse other) = moved_below inverse order other j undoes long lt in
    let same : count_of (permuted inverse other) ≡ count_of shape = ap count_of (permuted_back order inverse shape undoes axes) in
    omega (arith, below, same)

-- a transposed array has as many elements
count_at_least : (order inverse shape : List ℕ) → IsUndone order inverse → IsUndone inverse order → length shape ≡ length order
    → count_of (permuted order shape) ≤ count_of shape
count_at_least order inverse shape undone undoes axes =
    let moved : List ℕ = map (number_moved order shape) (range_with_len 0 (count_of shape)) in
    let long : length moved ≡ count_of shape = length-map-range_with_len (number_moved order shape) 0 (count_of shape) in
    let most : count_of (permuted order shape) ≤ length moved = le-length_from_below moved (count_of (permuted order shape)) (λ q lt.
    let from = number_moved inverse (permuted order shape) q in
    let below : from < count_of shape = moved_from_below order inverse shape q undone undoes axes lt in
    let here : get_or moved from 0 ≡ q =
    get_or-map-range_with_len (number_moved order shape) 0 (count_of shape) from from 0 below (omega arith)
    ∙ moved_forth order inverse shape q undone undoes axes lt in
    list_any_at (eqb q) moved from 0 (omega (arith, long)) (eq-eqb q (get_or moved from 0) (sym here))) in
    omega (arith, long, most)

pub count_permuted : (order inverse shape : List ℕ) → IsUndone order inverse → IsUndone inverse order → length shape ≡ length order
    → count_of (permuted order shape) ≡ count_of shape
count_permuted order inverse shape undone undoes axes =
    let other = permuted order shape in
    let long : length other ≡ length inverse = length-permuted order shape ∙ undoes.alike in
    let less : count_of other ≤ count_of shape = count_at_least order inverse shape undone undoes axes in
    let most : count_of (permuted inverse other) ≤ count_of other = count_at_least inverse order other undoes undone long in
    let same : count_of (permuted inverse other) ≡ count_of shape = ap count_of (permuted_back order inverse shape undoes axes) in
    omega (arith, less, most, same)

-- ---- cells in the order of a transposed array
pub length-transposed : {X : Type 0} (order shape : List ℕ) (absent : X) (cells : List X)
    → length (transposed order shape absent cells) ≡ count_of shape
unfolding transposed
length-transposed order shape absent cells =
    length-map-range_with_len (λ i. get_or cells (number_moved order shape i) absent) 0 (count_of shape)

pub transposed_at : {X : Type 0} (order shape : List ℕ) (absent : X) (cells : List X) (i : ℕ) → i < count_of shape
    → get_or (transposed order shape absent cells) i absent ≡ get_or cells (number_moved order shape i) absent
unfolding transposed
transposed_at order shape absent cells i lt =
    get_or-map-range_with_len (λ i. get_or cells (number_moved order shape i) absent) 0 (count_of shape) i i absent lt (omega arith)

-- elements transposed, and then by the inverse, are as they were
pub transposed_back : {X : Type 0} (order inverse shape : List ℕ) (absent : X) (cells : List X) → IsUndone order inverse
    → IsUndone inverse order → length shape ≡ length order
    → length cells ≡ count_of shape → transposed order shape absent (transposed inverse (permuted order shape) absent cells) ≡ cells
transposed_back order inverse shape absent cells undone undoes axes counted =
    let other = transposed inverse (permuted order shape) absent cells in
    ext_get_or absent (transposed order shape absent other) cells (length-transposed order shape absent other ∙ sym counted) (λ i lt.
    let below : i < count_of shape = omega (arith, length-transposed order shape absent other) in
    transposed_at order shape absent other i below
    ∙ (transposed_at inverse (permuted order shape) absent cells (number_moved order shape i)
    (moved_below order inverse shape i undone axes below)
    ∙ ap (λ n. get_or cells n absent) (moved_back order inverse shape i undone undoes axes below)))

-- cells that are all there are transposed as their elements
pub transposed_there : (order inverse shape : List ℕ) (elements : List (List ℕ)) → IsUndone order inverse → length shape ≡ length order
    → length elements ≡ count_of (permuted order shape)
    → transposed order shape None (map Some elements) ≡ map Some (transposed order shape [] elements)
transposed_there order inverse shape elements undone axes counted =
    let cells = transposed order shape None (map Some elements) in
    let turned = transposed order shape [] elements in
    let long : length cells ≡ count_of shape = length-transposed order shape None (map Some elements) in
    let as_long : length turned ≡ count_of shape = length-transposed order shape [] elements in
    ext_get_or None cells (map Some turned) (long ∙ (sym as_long ∙ sym (length-map turned Some))) (λ i lt.
    let below : i < count_of shape = omega (arith, long) in
    let moved : number_moved order shape i < length elements =
    omega (arith, counted, moved_below order inverse shape i undone axes below) in
    transposed_at order shape None (map Some elements) i below
    ∙ (get_or-map Some elements (number_moved order shape i) [] None moved
    ∙ (ap Some (sym (transposed_at order shape [] elements i below)) ∙ sym (get_or-map Some turned i [] None (omega (arith, as_long))))))
