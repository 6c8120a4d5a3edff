use Rattle.std.proofs.Common.{◌≡◌, ◌<◌, ℕ}
use Rattle.sharding_gather.specs.steps.Sorting.{requested_at}
use Rattle.sharding_gather.proofs.sorted.run_length.Given as goal

abbrev pub invariant-loop-i : goal.invariant-loop-i
invariant-loop-i l = record {
  from : 0 < l.i;
  same : (a : ℕ) → a < l.i → (requested_at l.requested a).subchunk ≡ (requested_at l.requested 0).subchunk;
}
