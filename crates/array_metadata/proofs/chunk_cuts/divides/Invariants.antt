-- The axes so far are divided evenly.
use Rattle.std.proofs.Common.{◌≡◌, ℕ, ◌<◌, ◌%◌, get_or}
use Rattle.array_metadata.proofs.chunk_cuts.divides.Given as goal

abbrev pub invariant-loop-axis : goal.invariant-loop-axis
invariant-loop-axis l = (k : ℕ) → k < l.axis → get_or l.shape k 0 % get_or l.part k 0 ≡ 0
