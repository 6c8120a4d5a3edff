use Rattle.std.proofs.Common.{◌≡◌, map, take}
use Rattle.sharding_gather.proofs.sorted.list_positions.Given as goal

abbrev pub invariant-loop-cell : goal.invariant-loop-cell
invariant-loop-cell l = l.positions.items ≡ map (λ cell. cell.position) (take l.cell-index l.requested)
