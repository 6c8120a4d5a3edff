use Rattle.std.proofs.Common.{arith}
use Rattle.parts_subsets.proofs.RangeLaws.{range_more}
use Rattle.parts_subsets.proofs.subset.ArraySubset.new_with_ranges.Goals as goal

pub loop-range-preserved : goal.loop-range-preserved
loop-range-preserved c =
    range_more c.args.ranges.now c.loop-range.range-index _ _ _ _ _ c.in-Some.len (omega arith) c.loop-range.invariant c.in-Some.ensures.0 (omega arith) c.in-Some.ensures.1 c.in_ok-push.ensures.ok c.in_ok-push-2.ensures.ok
