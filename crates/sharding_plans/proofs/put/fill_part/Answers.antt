use Rattle.std.proofs.Common.{rules, length}
use Rattle.sharding_plans.proofs.AxesLemmas.{fill_no_bytes, fill_not_whole}
use Rattle.sharding_plans.proofs.put.fill_part.Goals as goal

pub returns-then-is_empty-clause-refused : goal.returns-then-is_empty-clause-refused
returns-then-is_empty-clause-refused c =
    fill_no_bytes (length c.args.element.now) c.args.into.now.subset.now c.args.into.now.shape.now (length c.args.answer.now)
    c.shape-axes.ensures.well_formed c.in_ok-count.ensures.served (search rules)

pub returns-then-not-is_whole-clause-refused : goal.returns-then-not-is_whole-clause-refused
returns-then-not-is_whole-clause-refused c =
    fill_not_whole (length c.args.element.now) c.args.into.now.subset.now c.args.into.now.shape.now (length c.args.answer.now)
    c.shape-axes.ensures.well_formed c.in_ok-count.ensures.served (search rules) (search rules)
