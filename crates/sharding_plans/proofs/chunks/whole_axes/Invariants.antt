-- The axes so far.
use Rattle.std.proofs.Common.{◌≡◌, ◌<◌, ◌^◌, take}
use Rattle.std.specs.List.{All}
use Rattle.sharding_plans.specs.Chunks.{whole_chunks}
use Rattle.sharding_plans.proofs.chunks.whole_axes.Given as goal

abbrev pub invariant-loop-axis : goal.invariant-loop-axis
invariant-loop-axis l = record {
  rounded : l.whole.items ≡ take l.axis (whole_chunks l.shape l.chunk);
  fit : All (λ axis. axis < 2 ^ 64) l.whole.items;
}
