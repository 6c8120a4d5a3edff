use Rattle.std.proofs.Common.{◌≡◌, ℕ, ◌+◌, ◌^◌, ◌<◌, length, get_or}
use Rattle.parts_subsets.proofs.subset.is_subset.Given as goal

abbrev pub invariant-loop-axis : goal.invariant-loop-axis
invariant-loop-axis l =
    (length l.start ≡ length l.shape) × ((k : ℕ) → k < l.axis → get_or l.start k 0 + get_or l.shape k 0 < 2 ^ 64)
