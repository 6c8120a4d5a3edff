-- The lengths so far.
use Rattle.std.proofs.Common.{◌≡◌, take}
use Rattle.parts_subsets.specs.Overlaps.{overlap_of}
use Rattle.parts_subsets.proofs.subset.overlap.overlap_lengths.Given as goal

abbrev pub invariant-loop-axis : goal.invariant-loop-axis
invariant-loop-axis l =
    l.lengths.items ≡ take l.axis (overlap_of (record { start = l.start; shape = l.shape }) (record { start = l.other_start; shape = l.other_shape })).shape
