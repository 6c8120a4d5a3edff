-- Numbers that a value holds, one for each axis.
use Rattle.std.specs.Prelude.{ℕ, List, [], ◌∷◌, take}

-- numbers in order of their axes
pub record Numbers : Type 0 where
  pub items : List ℕ

-- The numbers of a value: the first so many of the few that stand in it, unless there are many, which stand apart.
unfoldable pub numbers_held : List ℕ → ℕ → List ℕ → List ℕ
numbers_held few len [] = take len few
numbers_held few len (number ∷ more) = number ∷ more
