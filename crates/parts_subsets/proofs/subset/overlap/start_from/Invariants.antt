-- The start so far.
use Rattle.std.proofs.Common.{◌≡◌, ◌-◌, take}
use Rattle.parts_row_major.specs.Numbering.{zip_with}
use Rattle.parts_subsets.proofs.subset.overlap.start_from.Given as goal

abbrev pub invariant-loop-axis : goal.invariant-loop-axis
invariant-loop-axis l = l.moved.items ≡ take l.axis (zip_with ◌-◌ l.start l.origin)
