-- The count of a subset that lies in a shape.
use Rattle.std.proofs.Common.{◌≡◌, ℕ, ◌+◌, ◌≤◌, List, [], ◌∷◌, length, refl, arith, Option, Some, None, SomeIff, IsSome}
use Rattle.std.proofs.lemmas.Nat.{mul-le}
use Rattle.std.specs.List.{AllZip}
use Rattle.parts_row_major.specs.Numbering.{count_of, zip_with}

-- the count of a subset is at most that of the shape that it lies in
pub subset_count_le : (start len shape : List ℕ) → length start ≡ length len → AllZip ◌≤◌ (zip_with ◌+◌ start len) shape → count_of len ≤ count_of shape
subset_count_le [] [] [] e h = omega arith
subset_count_le [] [] (s ∷ ss) e h = elim h [ ]
subset_count_le [] (n ∷ ns) ss e h = absurd (omega arith)
subset_count_le (a ∷ more) [] ss e h = absurd (omega arith)
subset_count_le (a ∷ more) (n ∷ ns) [] e h = elim h [ ]
subset_count_le (a ∷ more) (n ∷ ns) (s ∷ ss) e h = mul-le n (count_of ns) s (count_of ss) (omega (arith, h.0)) (subset_count_le more ns ss (omega arith) h.1)

-- an answer that is there exactly where a fact holds is there
pub some_from_iff : {T : Type 0} (r : Option T) (P : Type 0) (v : T) → SomeIff r P v → P → IsSome r
some_from_iff None P v h p = absurd (h p)
some_from_iff (Some x) P v h p = refl
