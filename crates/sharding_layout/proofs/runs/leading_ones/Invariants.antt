use Rattle.std.proofs.Common.{◌≡◌, ◌-◌, ◌<◌, ℕ, get_or}
use Rattle.sharding_layout.proofs.runs.leading_ones.Given as goal

abbrev pub invariant-loop-axis : goal.invariant-loop-axis
invariant-loop-axis l = (k : ℕ) → k < l.axis - 1 → get_or l.sub k 0 ≡ 1
