-- Steps of reading an order of axes.
use Rattle.std.proofs.Common.{◌≡◌, ℕ, ◌<◌, ◌∙◌, List, true, false, length, get_or, sym, ap, zero-add, arith}
use Rattle.std.specs.List.{range_with_len}
use Rattle.std.proofs.lemmas.List.Elements.{All-from_get_or}
use Rattle.std.proofs.lemmas.List.FromFn.{length-range_with_len, get_or-range_with_len}
use Rattle.std.proofs.lemmas.List.Folds.{list_all_at}
use Rattle.std.proofs.lemmas.List.Sums.{list_all-from_AllPass}
use Rattle.parts_row_major.specs.Numbering.{AllPositive}
use Rattle.array_codecs.specs.AxisOrders.{inverse_of, are_undone, is_order, permuted}
use Rattle.array_codecs.specs.AxisOrderLaws.{IsUndone, permuted_at, length-permuted}

place_at : (n k : ℕ) → k < n → get_or (range_with_len 0 n) k 0 ≡ k
place_at n k lt = get_or-range_with_len 0 n k 0 lt ∙ zero-add k

-- an order is one where each place is undone
pub order_whole : (order inverse : List ℕ) → inverse ≡ inverse_of order → ((k : ℕ) → k < length order → are_undone order inverse k ≡ true) → is_order order ≡ true
order_whole order inverse is each =
    let n = length order in
    list_all-from_AllPass (are_undone order (inverse_of order)) (range_with_len 0 n)
    (All-from_get_or (λ place. are_undone order (inverse_of order) place ≡ true) (range_with_len 0 n) 0 (λ k lt.
    let below : k < n = omega (arith, length-range_with_len 0 n) in
    ap (are_undone order (inverse_of order)) (place_at n k below) ∙ (ap (λ other. are_undone order other k) (sym is) ∙ each k below)))

-- and is none where one is not
pub order_broken : (order inverse : List ℕ) (k : ℕ) → inverse ≡ inverse_of order → k < length order → are_undone order inverse k ≡ false → is_order order ≡ false
order_broken order inverse k is below not =
    let n = length order in
    list_all_at (are_undone order (inverse_of order)) (range_with_len 0 n) k 0 (omega (arith, length-range_with_len 0 n))
    (ap (are_undone order (inverse_of order)) (place_at n k below) ∙ (ap (λ other. are_undone order other k) (sym is) ∙ not))

-- the axes of a shape stay positive
pub permuted_positive : (order inverse shape : List ℕ) → IsUndone order inverse → length shape ≡ length order → AllPositive shape → AllPositive (permuted order shape)
permuted_positive order inverse shape undone axes positive =
    All-from_get_or (λ axis. 0 < axis) (permuted order shape) 0 (λ k lt.
    let place : k < length order = omega (arith, length-permuted order shape) in
    rw (permuted_at order shape k place) (positive (get_or order k 0) 0 (omega (arith, undone.within k place))))
