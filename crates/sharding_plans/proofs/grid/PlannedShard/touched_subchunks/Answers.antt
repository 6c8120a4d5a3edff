use Rattle.sharding_plans.proofs.AxesLemmas.{is_within}
use Rattle.sharding_plans.proofs.grid.PlannedShard.touched_subchunks.Goals as goal

pub returns-clause-passed : goal.returns-clause-passed
returns-clause-passed c = is_within c.args.subset.now c.args.self.now.shape c.shape-axes.ensures.well_formed (rw c.as_slice.ensures.value at c.in_ok-check_subset.ensures.served)
