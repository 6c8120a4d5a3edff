-- That bytes are a target in one way at most.
use Rattle.std.specs.Prelude.{ℕ, ◌≤◌, List, [], ◌∷◌}
use Rattle.std.specs.List.{AllZip}
use Rattle.std.specs.Coded.{×_prop, le_prop, Coded-set, coded_ℕ}
use Rattle.parts_row_major.specs.Subsets.{Subset, IsTarget}

ends-prop : (ends shape : List ℕ) → IsProp (AllZip ◌≤◌ ends shape)
ends-prop [] [] = hlevel
ends-prop [] (axis ∷ rest) = hlevel
ends-prop (end ∷ ends) [] = hlevel
ends-prop (end ∷ ends) (axis ∷ rest) = ×_prop le_prop (ends-prop ends rest)

pub target-prop : (bytes size : ℕ) (shape : List ℕ) (subset : Subset) → IsProp (IsTarget bytes size shape subset)
target-prop bytes size shape subset = hlevel (le_prop, Coded-set coded_ℕ, ends-prop)
