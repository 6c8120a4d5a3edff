-- The sums so far.
use Rattle.std.proofs.Common.{◌≡◌, ◌+◌, take}
use Rattle.parts_row_major.specs.Numbering.{zip_with}
use Rattle.array_creation.proofs.subset_chunk.moved_start.Given as goal

abbrev pub invariant-loop-axis : goal.invariant-loop-axis
invariant-loop-axis l = l.moved.items ≡ take l.axis (zip_with ◌+◌ l.origin l.start)
