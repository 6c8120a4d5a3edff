-- What stored bytes stand for: a cell for each place of an array, which is there or isn't.
use Rattle.std.specs.Prelude.{ℕ, Option, Some, None, List, [], ◌∷◌, length, option_and_then}

-- the cells' elements, where all are there
abbrev pub all_there : {A : Type 0} → List (Option A) → Option (List A)
all_there [] = Some []
all_there (None ∷ cells) = None
all_there (Some e ∷ cells) = option_and_then (λ es. Some (e ∷ es)) (all_there cells)

-- the length of a cell's element, 0 where it isn't there
abbrev pub cell_length : Option (List ℕ) → ℕ
cell_length None = 0
cell_length (Some e) = length e
