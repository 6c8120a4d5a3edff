-- That a subchunk shape divides a shard's holds in one way at most, so that a struct can keep it.
use Rattle.std.specs.Prelude.{◌%◌, ℕ, List, [], ◌∷◌}
use Rattle.std.specs.Coded.{×_prop, Unit-prop, Coded-set, coded_ℕ}
use Rattle.parts_subsets.specs.Grid.{Divides}

pub divides-prop : (sub shape : List ℕ) → IsProp (Divides sub shape)
divides-prop [] [] = Unit-prop
divides-prop [] (axis ∷ shape) = λ h. absurd h
divides-prop (part ∷ sub) [] = λ h. absurd h
divides-prop (part ∷ sub) (axis ∷ shape) = ×_prop (Coded-set coded_ℕ (axis % part) 0) (divides-prop sub shape)
