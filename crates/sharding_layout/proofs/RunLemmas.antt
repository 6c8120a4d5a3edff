-- Subchunks that each are one run of the cells of their shape.
use Rattle.std.proofs.Common.{◌≡◌, ℕ, zero, suc, ◌+◌, ◌*◌, ◌/◌, ◌%◌, ◌<◌, List, [], ◌∷◌, length, get_or, drop, sym, ap, ◌∙◌, arith}
use Rattle.std.proofs.lemmas.Nat.{div-add-mod'}
use Rattle.std.proofs.Math.Nat.{div-eq_of_lt, mod-eq_of_lt}
use Rattle.parts_row_major.specs.Numbering.{count_of}
use Rattle.parts_subsets.specs.Grid.{Divides, grid_of, cell_number}
use Rattle.parts_subsets.proofs.GridLaws.{count-grid, number_in-subset_of_subchunk}
use Rattle.parts_subsets.proofs.FollowLaws.{contiguous_number}

-- where all axes but the first are whole
pub runs_whole : (shape sub : List ℕ) → Divides sub shape → drop 1 shape ≡ drop 1 sub → 0 < length shape → 0 < count_of shape
    → (k p : ℕ) → p < count_of sub → cell_number shape sub k p ≡ k * count_of sub + p
runs_whole shape sub divides same axes some k p lt =
    sym (number_in-subset_of_subchunk shape sub k p) ∙ contiguous_number shape sub k p divides same axes some

spread : (q g r c p : ℕ) → (q * 1 + 0) * (g * c) + (r * c + p) ≡ (q * g + r) * (1 * c) + p
spread q g r c p = grind arith

-- one axis more, on which the subchunk has one element
runs_past_one : (n m : ℕ) (ns ms : List ℕ) → m ≡ 1 → Divides ms ns
    → ((k p : ℕ) → p < count_of ms → cell_number ns ms k p ≡ k * count_of ms + p)
    → (k p : ℕ) → p < count_of (m ∷ ms) → cell_number (n ∷ ns) (m ∷ ms) k p ≡ k * count_of (m ∷ ms) + p
unfolding cell_number
runs_past_one n m ns ms one divides rest k p lt =
    let g = count_of (grid_of ns ms) in
    let c = count_of ms in
    let small : p < c = omega (arith, rw one at lt) in
    let none : p / c ≡ 0 = div-eq_of_lt small in
    let same : p % c ≡ p = mod-eq_of_lt small in
    let cells : count_of ns ≡ g * c = count-grid ns ms divides in
    rw (one, none, same, cells) (
    ap (λ x. (k / g * 1 + 0) * (g * c) + x) (rest (k % g) p small)
    ∙ (spread (k / g) g (k % g) c p ∙ ap (λ x. x * (1 * c) + p) (div-add-mod' k g))
    )

-- where all axes are whole but some first ones, on which the subchunk has one element, and one behind these
pub runs_past : (ones : ℕ) (shape sub : List ℕ) → ((k : ℕ) → k < ones → get_or sub k 0 ≡ 1) → Divides sub shape → 0 < count_of shape
    → drop 1 (drop ones shape) ≡ drop 1 (drop ones sub) → 0 < length (drop ones shape)
    → (k p : ℕ) → p < count_of sub → cell_number shape sub k p ≡ k * count_of sub + p
runs_past zero shape sub all divides some follow axes = runs_whole shape sub divides follow axes some
runs_past (suc ones) [] sub all divides some follow axes = absurd (omega arith)
runs_past (suc ones) (n ∷ ns) [] all divides some follow axes = elim divides [ ]
runs_past (suc ones) (n ∷ ns) (m ∷ ms) all divides some follow axes =
    runs_past_one n m ns ms (all 0 (omega arith)) divides.1 (runs_past ones ns ms (λ k lt. all (suc k) (omega arith)) divides.1 (grind (arith, some)) follow axes)
