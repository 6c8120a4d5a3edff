use Rattle.std.proofs.Common.{◌≡◌, ◌+◌, take}
use Rattle.parts_row_major.specs.Numbering.{zip_with}
use Rattle.sharding_gather.proofs.placing.moved.Given as goal

abbrev pub invariant-loop-axis : goal.invariant-loop-axis
invariant-loop-axis l = l.axes.items ≡ take l.axis (zip_with ◌+◌ l.origin l.start)
