use Rattle.sharding_plans.proofs.PackLemmas.{the_lay_out_law}
use Rattle.sharding_plans.proofs.packed.lay_out_law.Goals as goal

pub returns : goal.returns
returns g c = the_lay_out_law _ _
