-- Where new slices go.
use Rattle.std.proofs.Common.{ℕ, ◌+◌, ◌^◌, ◌≤◌, ◌<◌, List, refl, arith}
use Rattle.sharding_format.specs.declared.location.ShardingIndexLocation.{ShardingIndexLocation}
use Rattle.sharding_format.specs.declared.location.ShardingIndexLocation.TheVariants.{Start, End}
use Rattle.sharding_layout.specs.Offsets.{offset_after, length_after}
use Rattle.sharding_layout.proofs.EndLemmas.{last_end_least, last_end_most}
use Rattle.sharding_write.specs.Writing.{GoesTo}

-- the place behind the old slices of an object that has an index
pub goes_after : (location : ShardingIndexLocation) (size len total : ℕ) (numbers : List ℕ) (n : ℕ) → size ≤ len
    → GoesTo location size len (offset_after location size len numbers n) total (length_after location len (offset_after location size len numbers n) total)
goes_after Start size len total numbers n enough = (last_end_least size len numbers n, last_end_most size len numbers n enough, refl)
goes_after End size len total numbers n enough = (omega (arith, enough), refl)

-- new slices there end within the object
pub after_within : (location : ShardingIndexLocation) (size len total : ℕ) (numbers : List ℕ) (n : ℕ)
    → offset_after location size len numbers n + total ≤ length_after location len (offset_after location size len numbers n) total
after_within Start size len total numbers n = omega arith
after_within End size len total numbers n = omega arith

-- what isn't below a number is no less
pub at_least : (n : ℕ) → ¬ (n < 2 ^ 64) → 2 ^ 64 ≤ n + 1
at_least n h = omega arith
