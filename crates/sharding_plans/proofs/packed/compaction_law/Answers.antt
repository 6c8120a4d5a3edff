use Rattle.sharding_plans.proofs.PackLemmas.{the_compaction_law}
use Rattle.sharding_plans.proofs.packed.compaction_law.Goals as goal

pub returns : goal.returns
returns g c = the_compaction_law _
