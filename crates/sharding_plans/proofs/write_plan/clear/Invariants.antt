use Rattle.sharding_plans.specs.WritePlans.{AreCleared}
use Rattle.sharding_plans.proofs.write_plan.clear.Given as goal

abbrev pub invariant-loop-j : goal.invariant-loop-j
invariant-loop-j l = AreCleared l.touched l.fn.numbers l.numbers l.j
