use Rattle.std.proofs.lemmas.List.Sorted.{All-permutation}
use Rattle.std.proofs.Common.{sym}
use Rattle.sharding_plans.specs.Fetches.{Fits}
use Rattle.sharding_plans.proofs.FetchLemmas.{fetched_in_any_order}
use Rattle.sharding_plans.proofs.fetches.plan_fetches.Goals as goal

pub merge-requires-clause-fits : goal.merge-requires-clause-fits
merge-requires-clause-fits c = rw c.deref.ensures.value (All-permutation Fits _ _ c.sort.ensures.permutation (rw c.in_ok-slices.ensures c.requires))

pub returns-clause-fetches : goal.returns-clause-fetches
returns-clause-fetches c =
    rw (sym c.in_ok-slices.ensures)
    (fetched_in_any_order c.args.gap _ _ _ c.sort.ensures.permutation (rw (sym c.deref.ensures.value) c.in_ok-fetches.ensures))
