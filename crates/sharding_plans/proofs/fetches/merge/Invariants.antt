use Rattle.sharding_plans.proofs.FetchLemmas.{IsMergedTo}
use Rattle.sharding_plans.proofs.fetches.merge.Given as goal

abbrev pub invariant-loop-i : goal.invariant-loop-i
invariant-loop-i l = IsMergedTo l.gap l.slices l.i l.fetches.items l.current
