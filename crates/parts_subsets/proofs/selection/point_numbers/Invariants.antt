use Rattle.std.proofs.Common.{◌≡◌, map, take}
use Rattle.parts_row_major.specs.Numbering.{number_of}
use Rattle.parts_subsets.proofs.selection.point_numbers.Given as goal

abbrev pub invariant-loop-i : goal.invariant-loop-i
invariant-loop-i g l =
    l.numbers.items ≡ map (λ point. number_of point l.shape) (take l.i (g.N.Indexer.selection l.indexer).points)
