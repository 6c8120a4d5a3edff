-- Texts cut at a separator, and the numbers that digits write.
use Rattle.std.proofs.Common.{◌≡◌, ◌<◌, ◌≤◌, ◌+◌, ◌-◌, ◌*◌, ℕ, Bool, List, [], ◌∷◌, length, take, drop, slice_range, fold, get_or, ◌++◌, Some, None, ap, arith}
use Rattle.std.specs.List.{slice_split, position, position_or_len}
use Rattle.std.proofs.lemmas.List.Splits.{slice_split_none, slice_split_first}
use Rattle.std.proofs.lemmas.List.Sums.{fails_before_first, fold-append, fold_more}
use Rattle.std.proofs.lemmas.List.{take-append-drop}
use Rattle.std.proofs.lemmas.Bool.Decides.{nat_tests}
use Rattle.std.proofs.lemmas.Grind.{common_steps}
use Rattle.tool_script.specs.Text.{decimal_value}

-- a text without the separator is one piece
pub slice_split-none : (p : ℕ → Bool) (text : List ℕ) → position p text ≡ None → slice_split p text ≡ text ∷ []
slice_split-none p text h =
    let far : length text ≤ position_or_len p text = grind (arith, nat_tests) in
    slice_split_none p text (λ k d below. fails_before_first p text k d (omega arith))

-- the first piece ends where the separator stands first
pub slice_split-some : (p : ℕ → Bool) (text : List ℕ) (at : ℕ) → position p text ≡ Some at → slice_split p text ≡ take at text ∷ slice_split p (slice_range text (at + 1) (length text))
slice_split-some p text at h =
    let below : position_or_len p text < length text = grind (arith, nat_tests) in
    let is : position_or_len p text ≡ at = grind (arith, nat_tests) in
    let first = slice_split_first p text 0 below in
    let rest : drop (at + 1) text ≡ slice_range text (at + 1) (length text) = grind (arith, common_steps) in
    rw (← rest) (rw is at first)

-- digits behind others only make a number greater
fold-grows : (start : ℕ) (text : List ℕ) → start ≤ fold (λ value digit. 10 * value + (digit - 48)) start text
fold-grows start [] = omega arith
fold-grows start (x ∷ xs) = omega (arith, fold-grows (10 * start + (x - 48)) xs)

-- one more digit
pub decimal_value-more : (text : List ℕ) (k : ℕ) → k < length text → decimal_value (take (k + 1) text) ≡ 10 * decimal_value (take k text) + (get_or text k 0 - 48)
decimal_value-more text k below = fold_more (λ value digit. 10 * value + (digit - 48)) 0 text k 0 below

-- the number that the first digits write is at most that of them all
decimal_value-take : (text : List ℕ) (k : ℕ) → decimal_value (take k text) ≤ decimal_value text
decimal_value-take text k =
    let start = decimal_value (take k text) in
    let whole : decimal_value (take k text ++ drop k text) ≡ fold (λ value digit. 10 * value + (digit - 48)) start (drop k text) =
    fold-append (λ value digit. 10 * value + (digit - 48)) 0 (take k text) (drop k text) in
    let grows : start ≤ fold (λ value digit. 10 * value + (digit - 48)) start (drop k text) = fold-grows start (drop k text) in
    let same : decimal_value (take k text ++ drop k text) ≡ decimal_value text = ap decimal_value (take-append-drop k text) in
    omega (arith, whole, grows, same)

-- where the number passes a limit at some digit, it passes it at the end
pub decimal_value-past : (text : List ℕ) (k limit : ℕ) → k < length text → limit ≤ 10 * decimal_value (take k text) + (get_or text k 0 - 48) → limit ≤ decimal_value text
decimal_value-past text k limit below past = omega (arith, decimal_value-more text k below, decimal_value-take text (k + 1))
