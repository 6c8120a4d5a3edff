use Rattle.std.proofs.Common.{◌≡◌, map}
use Rattle.std.specs.List.{range_with_len}
use Rattle.sharding_gather.specs.steps.Sorting.{requested_cell}
use Rattle.sharding_gather.proofs.sorted.located_cells.Given as goal

abbrev pub invariant-loop-rank : goal.invariant-loop-rank
invariant-loop-rank l = l.requested.items ≡ map (requested_cell l.shape l.sub l.numbers) (range_with_len 0 l.rank)
