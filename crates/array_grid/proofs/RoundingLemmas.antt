-- Shapes rounded up to whole shards.
use Rattle.std.proofs.Common.{◌≡◌, ℕ, suc, ◌<◌, ◌^◌, List, [], ◌∷◌, length, arith}
use Rattle.parts_row_major.specs.Numbering.{AllPositive, count_of, IsInside}
use Rattle.parts_subsets.specs.Grid.{Divides, grid_of}
use Rattle.parts_subsets.proofs.GridLaws.{count-grid, at_least, count-positive}
use Rattle.sharding_plans.specs.Chunks.{whole_chunks}
use Rattle.sharding_plans.proofs.RoundingLemmas.{rounded_fits, whole_divided}

-- a coordinate inside a shape is inside it rounded up
pub inside_whole : (point shape shard : List ℕ) → length shape ≡ length shard → AllPositive shard → IsInside point shape → IsInside point (whole_chunks shape shard)
inside_whole [] [] [] same some within = tt
inside_whole [] [] (p ∷ shard) same some within = absurd (omega (arith, same))
inside_whole [] (n ∷ shape) shard same some within = elim within [ ]
inside_whole (x ∷ point) [] shard same some within = elim within [ ]
inside_whole (x ∷ point) (n ∷ shape) [] same some within = absurd (omega (arith, same))
inside_whole (x ∷ point) (n ∷ shape) (p ∷ shard) same some within =
    (omega (arith, within.0, rounded_fits n p (some 0 0 (omega arith))), inside_whole point shape shard (omega (arith, same)) (λ j e under. some (suc j) e (omega (arith, under))) within.1)

-- a shape rounded up is divided by the shards that it was rounded up to
pub made_divided : (shape shard slice whole axes : List ℕ) → slice ≡ shard → axes ≡ whole_chunks shape slice → whole ≡ axes → length shape ≡ length slice → AllPositive shard
    → Divides shard whole
made_divided shape shard slice whole axes e rounded made same some = rw (made, rounded, ← e) (whole_divided shape slice same (rw e some))

-- there are no more shards than cells
pub shards_fit : (whole shard grid : List ℕ) → AllPositive shard → Divides shard whole → grid ≡ grid_of whole shard → count_of whole < 2 ^ 64 → count_of grid < 2 ^ 64
shards_fit whole shard grid some divides cut fits =
    rw cut (omega (arith, count-grid whole shard divides, at_least (count_of (grid_of whole shard)) (count_of shard) (count-positive shard some), fits))
