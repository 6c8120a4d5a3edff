-- Along the axes up to here the part begins and ends as it is to.
use Rattle.std.proofs.Common.{◌≡◌, ◌<◌, ℕ, get_or, length}
use Rattle.array_cli.specs.ChunkParts.{IsClipped}
use Rattle.array_cli.proofs.grid_shards.elements_of.Given as goal

abbrev pub invariant-loop-axis : goal.invariant-loop-axis
invariant-loop-axis l = record {
  begun : length l.starts.items ≡ l.axis;
  counted : length l.counts.items ≡ l.axis;
  each : (i : ℕ) → i < l.axis → IsClipped (get_or l.coordinates i 0) (get_or l.chunk i 0) (get_or l.shape i 0) (get_or l.starts.items i 0) (get_or l.counts.items i 0);
}
