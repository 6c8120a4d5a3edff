use Rattle.std.proofs.Common.{arith}
use Rattle.sharding_plans.proofs.PackLemmas.{sized_stand}
use Rattle.sharding_plans.proofs.packed.index_of_sizes.Goals as goal

pub returns-clause-slots : goal.returns-clause-slots
returns-clause-slots c = λ k lt. sized_stand c.args.sizes.now c.loop-k.numbers.items c.loop-k.k (λ j below. omega (arith, c.type_inv.sizes j)) c.loop-k.invariant k (omega arith)
