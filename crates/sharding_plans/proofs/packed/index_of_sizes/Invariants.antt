use Rattle.sharding_plans.proofs.PackLemmas.{AreSized}
use Rattle.sharding_plans.proofs.packed.index_of_sizes.Given as goal

abbrev pub invariant-loop-k : goal.invariant-loop-k
invariant-loop-k l = AreSized l.sizes l.numbers.items l.k
