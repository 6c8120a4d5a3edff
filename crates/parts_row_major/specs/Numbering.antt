-- Shapes, coordinates and their numbers in row-major order, where the last axis varies fastest.
use Rattle.std.specs.Prelude.{ℕ, ◌+◌, ◌*◌, ◌/◌, ◌%◌, ◌^◌, ◌<◌, List, [], ◌∷◌}
use Rattle.std.specs.List.{All, AllZip}

-- how many coordinates a shape has: the product of its numbers
abbrev pub count_of : List ℕ → ℕ
count_of [] = 1
count_of (axis ∷ rest) = axis * count_of rest

-- a coordinate inside a shape has as many numbers, each below its axis
abbrev pub IsInside : List ℕ → List ℕ → Type 0
IsInside point shape = AllZip (λ x axis. x < axis) point shape

-- the number of a coordinate
abbrev pub number_of : List ℕ → List ℕ → ℕ
number_of [] shape = 0
number_of (x ∷ xs) [] = 0
number_of (x ∷ xs) (axis ∷ rest) = x * count_of rest + number_of xs rest

-- the coordinate that has a number
abbrev pub point_of : ℕ → List ℕ → List ℕ
point_of i [] = []
point_of i (axis ∷ rest) = (i / count_of rest) ∷ point_of (i % count_of rest) rest

-- each axis is at least 1
abbrev pub AllPositive : List ℕ → Type 0
AllPositive shape = All (λ axis. 0 < axis) shape

-- the shape has a coordinate of this number, and its count fits 64 bits
abbrev pub HasPoint : ℕ → List ℕ → Type 0
HasPoint i shape = (i < count_of shape) × (count_of shape < 2 ^ 64)

-- two lists joined number by number
abbrev pub zip_with : (ℕ → ℕ → ℕ) → List ℕ → List ℕ → List ℕ
zip_with f [] ys = []
zip_with f (x ∷ xs) [] = []
zip_with f (x ∷ xs) (y ∷ ys) = f x y ∷ zip_with f xs ys
