-- The one cell of a subset that has one.
use Rattle.std.proofs.Common.{◌≡◌, ◌∙◌, ℕ, zero, suc, List, [], ◌∷◌, length, map, ap, arith}
use Rattle.std.specs.List.{All, range_with_len}
use Rattle.parts_row_major.specs.Numbering.{count_of, number_of}
use Rattle.parts_row_major.specs.Subsets.{Subset, number_in, numbers_in}
use Rattle.parts_subsets.proofs.SetLaws.{first_point}

-- it is the one where the subset starts
pub number_of_one : (subset : Subset) (shape : List ℕ) → length subset.start ≡ length subset.shape → count_of subset.shape ≡ 1
    → numbers_in subset shape ≡ number_of subset.start shape ∷ []
number_of_one subset shape same one =
    ap (λ n. map (number_in subset shape) (range_with_len 0 n)) one
    ∙ ap (λ point. number_of point shape ∷ []) (first_point subset.start subset.shape same (omega (arith, one)))

-- what holds of a number holds of each of a list that has it alone
pub all_of_one : (P : ℕ → Type 0) (x : ℕ) → P x → All P (x ∷ [])
all_of_one P x h zero d lt = h
all_of_one P x h (suc k) d lt = absurd (omega (arith, lt))
