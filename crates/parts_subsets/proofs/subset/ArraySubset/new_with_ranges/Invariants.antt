use Rattle.parts_subsets.proofs.RangeLaws.{RangesSoFar}
use Rattle.parts_subsets.proofs.subset.ArraySubset.new_with_ranges.Given as goal

abbrev pub invariant-loop-range : goal.invariant-loop-range
invariant-loop-range l = RangesSoFar l.ranges l.range-index l.start.items l.shape.items
