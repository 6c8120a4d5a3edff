-- The grid of a shard from its axes, one by one.
use Rattle.std.proofs.Common.{◌≡◌, ℕ, suc, ◌/◌, ◌%◌, ◌<◌, List, [], ◌∷◌, length, get_or, refl, sym, ap, ◌∙◌, arith}
use Rattle.std.proofs.lemmas.List.{ext_get_or}
use Rattle.parts_subsets.specs.Grid.{grid_of, Divides}
use Rattle.parts_subsets.proofs.GridLaws.{length-grid, get_or-grid}

pub same_axes-Divides : (sub shape : List ℕ) → Divides sub shape → length shape ≡ length sub
same_axes-Divides [] [] h = refl
same_axes-Divides [] (n ∷ shape) h = absurd h
same_axes-Divides (d ∷ sub) [] h = absurd h
same_axes-Divides (d ∷ sub) (n ∷ shape) h = ap suc (same_axes-Divides sub shape h.1)

pub Divides-from_axes : (sub shape : List ℕ) → length shape ≡ length sub → ((k : ℕ) → k < length shape → get_or shape k 0 % get_or sub k 0 ≡ 0) → Divides sub shape
Divides-from_axes [] [] e h = tt
Divides-from_axes [] (n ∷ shape) e h = absurd (omega arith)
Divides-from_axes (d ∷ sub) [] e h = absurd (omega arith)
Divides-from_axes (d ∷ sub) (n ∷ shape) e h = (h 0 (omega arith), Divides-from_axes sub shape (omega arith) (λ k below. h (suc k) (omega arith)))

pub grid-from_axes : (shape sub axes : List ℕ) → Divides sub shape → length axes ≡ length shape
    → ((k : ℕ) → k < length shape → get_or axes k 0 ≡ get_or shape k 0 / get_or sub k 0) → axes ≡ grid_of shape sub
grid-from_axes shape sub axes divides len each =
    ext_get_or 0 axes (grid_of shape sub) (len ∙ sym (length-grid shape sub divides))
    (λ k below. each k (omega arith) ∙ sym (get_or-grid shape sub k divides (omega arith)))
