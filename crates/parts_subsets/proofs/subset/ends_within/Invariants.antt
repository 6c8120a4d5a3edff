use Rattle.std.proofs.Common.{◌≡◌, ℕ, ◌+◌, ◌≤◌, ◌<◌, length, get_or}
use Rattle.parts_subsets.proofs.subset.ends_within.Given as goal

abbrev pub invariant-loop-axis : goal.invariant-loop-axis
invariant-loop-axis l = record {
  same_axes : length l.start ≡ length l.len;
  same_length : length l.start ≡ length l.shape;
  so_far : (k : ℕ) → k < l.axis → get_or l.start k 0 + get_or l.len k 0 ≤ get_or l.shape k 0;
}
