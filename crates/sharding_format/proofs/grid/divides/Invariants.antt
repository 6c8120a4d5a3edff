use Rattle.std.proofs.Common.{◌≡◌, ℕ, ◌<◌, ◌%◌, get_or}
use Rattle.sharding_format.proofs.grid.divides.Given as goal

abbrev pub invariant-loop-axis : goal.invariant-loop-axis
invariant-loop-axis l = (k : ℕ) → k < l.axis → get_or l.shape k 0 % get_or l.sub k 0 ≡ 0
