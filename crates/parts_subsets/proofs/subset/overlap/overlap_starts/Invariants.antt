-- The starts so far.
use Rattle.std.proofs.Common.{◌≡◌, max, take}
use Rattle.parts_row_major.specs.Numbering.{zip_with}
use Rattle.parts_subsets.proofs.subset.overlap.overlap_starts.Given as goal

abbrev pub invariant-loop-axis : goal.invariant-loop-axis
invariant-loop-axis l = l.starts.items ≡ take l.axis (zip_with max l.start l.other_start)
