use Rattle.sharding_layout.proofs.plan.plan_compaction.Goals as goal

pub planned-requires-clause-plan : goal.planned-requires-clause-plan
planned-requires-clause-plan g c = c.in_ok-plan.ensures.plan

pub planned-requires-clause-served : goal.planned-requires-clause-served
planned-requires-clause-served g c = c.in_ok-plan.ensures.served
