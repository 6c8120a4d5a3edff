-- The first axes of the subset.
use Rattle.std.proofs.Common.{ℕ, ◌<◌, get_or}
use Rattle.parts_subsets.specs.Touched.{IsOneAlong}
use Rattle.parts_subsets.proofs.subset.touched.is_in_one.Given as goal

abbrev pub invariant-loop-axis : goal.invariant-loop-axis
invariant-loop-axis l = (k : ℕ) → k < l.axis → IsOneAlong (get_or l.start k 0) (get_or l.len k 0) (get_or l.sub k 0)
