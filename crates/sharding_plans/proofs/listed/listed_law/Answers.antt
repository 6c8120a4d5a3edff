use Rattle.sharding_plans.proofs.ListedLemmas.{the_listed_law}
use Rattle.sharding_plans.proofs.listed.listed_law.Goals as goal

pub returns : goal.returns
returns c = the_listed_law _ _ c.requires
