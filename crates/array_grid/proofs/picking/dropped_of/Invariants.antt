use Rattle.std.proofs.Common.{◌≡◌, map, take}
use Rattle.array_grid.specs.Subsets.{is_coordinate}
use Rattle.array_grid.proofs.picking.dropped_of.Given as goal

abbrev pub invariant-loop-word : goal.invariant-loop-word
invariant-loop-word l = l.dropped.items ≡ map is_coordinate (take l.word-index l.words)
