use Rattle.sharding_plans.proofs.StoredWriteLemmas.{the_write_law}
use Rattle.sharding_plans.proofs.write_plan.write_law.Goals as goal

pub returns : goal.returns
returns g c = the_write_law _ _
