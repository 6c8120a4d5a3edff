-- So far no axis is longer.
use Rattle.std.proofs.Common.{◌<◌, ◌≤◌, ◌^◌, ℕ, get_or}
use Rattle.sharding_layout.proofs.morton.bits_of.Given as goal

abbrev pub invariant-loop-length : goal.invariant-loop-length
invariant-loop-length l = record {
  few : l.bits ≤ 64;
  enough : (axis : ℕ) → axis < l.length-index → get_or l.grid axis 0 ≤ 2 ^ l.bits;
}
