use Rattle.sharding_plans.proofs.EncodeLemmas.{the_encode_law}
use Rattle.sharding_plans.proofs.packed.encode_law.Goals as goal

pub returns : goal.returns
returns g c = the_encode_law _ _
