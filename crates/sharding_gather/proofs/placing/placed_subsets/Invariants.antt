use Rattle.std.proofs.Common.{◌≡◌, ◌<◌, ℕ, length, get_or}
use Rattle.parts_subsets.specs.Grid.{grid_subset}
use Rattle.sharding_gather.specs.steps.Placings.{shifted_subset, no_subset}
use Rattle.sharding_gather.proofs.placing.placed_subsets.Given as goal

abbrev pub invariant-loop-k : goal.invariant-loop-k
invariant-loop-k l = record {
  counted : length l.subsets.items ≡ l.k;
  each : (k : ℕ) → k < l.k → get_or l.subsets.items k no_subset ≡ shifted_subset l.within (grid_subset l.grid l.sub k);
}
