-- The shards that a subset meets, one after the other.
use Rattle.std.proofs.Common.{◌≡◌, ℕ, ◌<◌, ◌^◌, List, length, get_or, ap, arith}
use Rattle.std.proofs.lemmas.List.FromFn.{get_or-map-range_with_len, length-map-range_with_len}
use Rattle.parts_row_major.specs.Numbering.{count_of, HasPoint}
use Rattle.parts_row_major.proofs.PieceLaws.{number_in_below}
use Rattle.parts_subsets.specs.Grid.{grid_of}
use Rattle.parts_row_major.specs.Subsets.{Subset, IsSubset, LiesIn, number_in, numbers_in}
use Rattle.parts_subsets.specs.Touched.{Touches, AreTouched, IsTouchedSubset}
use Rattle.parts_subsets.proofs.TouchedLaws.{touched_lies_in, are_touched}
use Rattle.sharding_plans.proofs.RoundingLemmas.{lies_in_whole}
use Rattle.array_grid.specs.Shards.{IsSharded}
use Rattle.array_grid.proofs.RoundingLemmas.{shards_fit}

-- an array in shards, a subset of it, and the shards that it meets as a subset of the grid
module _ (shape shard whole grid : List ℕ) (shards : ℕ) (i : IsSharded shape shard whole grid shards) (subset touched : Subset)
    (well : IsSubset subset.start subset.shape) (inside : LiesIn subset shape) (h : IsTouchedSubset subset shard touched) where
  pub inside_whole : LiesIn subset whole
  inside_whole = lies_in_whole subset shape shard whole i.rounded i.same_axes i.some inside

  -- they lie in the grid, whose count fits
  pub met_in_grid : LiesIn touched grid × (count_of grid < 2 ^ 64)
  met_in_grid = (
    rw i.cut (touched_lies_in whole shard subset touched h i.some i.divided well inside_whole),
    shards_fit whole shard grid i.some i.divided i.cut i.fits,
  )

  -- their numbers are those of the shards in which a cell of the subset lies
  pub met : AreTouched whole shard subset (numbers_in touched grid)
  met = are_touched whole shard subset touched h i.some i.divided well inside_whole (numbers_in touched grid) (ap (numbers_in touched) i.cut)

  pub met_counted : length (numbers_in touched grid) ≡ count_of touched.shape
  met_counted = length-map-range_with_len (number_in touched grid) 0 (count_of touched.shape)

  pub met_at : (position : ℕ) → position < count_of touched.shape → get_or (numbers_in touched grid) position 0 ≡ number_in touched grid position
  met_at position below = get_or-map-range_with_len (number_in touched grid) 0 (count_of touched.shape) position position 0 below (omega arith)

  -- each of them is in the grid
  pub met_has : (position number : ℕ) → position < count_of touched.shape → number ≡ number_in touched grid position → HasPoint number (grid_of whole shard)
  met_has position number below is =
      let small = number_in_below touched grid position met_in_grid.0 below in
      rw (is, ← i.cut) (small, met_in_grid.1)

  -- each of them is touched
  pub met_touched : (position number : ℕ) → position < count_of touched.shape → number ≡ number_in touched grid position → Touches whole shard subset number
  met_touched position number below is = rw is (rw (met_at position below) at (met.touched position (omega (arith, below, met_counted))))
