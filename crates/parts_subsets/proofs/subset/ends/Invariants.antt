use Rattle.std.proofs.Common.{◌≡◌, ◌+◌, take}
use Rattle.parts_row_major.specs.Numbering.{zip_with}
use Rattle.parts_subsets.proofs.subset.ends.Given as goal

abbrev pub invariant-loop-axis : goal.invariant-loop-axis
invariant-loop-axis l = l.end.items ≡ take l.axis (zip_with ◌+◌ l.start l.shape)
