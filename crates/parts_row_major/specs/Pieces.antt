-- A list cut into pieces of one size.
use Rattle.std.specs.Prelude.{◌≡◌, ◌≢◌, ℕ, ◌*◌, ◌<◌, List, map, take, drop}
use Rattle.std.specs.List.{range_with_len}

-- the piece at a place
abbrev pub piece : ℕ → List ℕ → ℕ → List ℕ
piece size xs i = take size (drop (i * size) xs)

-- the first pieces of a list, in order
abbrev pub pieces : ℕ → ℕ → List ℕ → List (List ℕ)
pieces size many xs = map (piece size xs) (range_with_len 0 many)

-- the elements at the places that `position` names are those of the update in order, and all others are as before
pub record IsUpdated {X : Type 0} (many : ℕ) (position : ℕ → ℕ) (old update new : ℕ → X) : Type 0 where
  pub inside : (k : ℕ) → k < many → new (position k) ≡ update k
  pub outside : (i : ℕ) → ((k : ℕ) → k < many → position k ≢ i) → new i ≡ old i
