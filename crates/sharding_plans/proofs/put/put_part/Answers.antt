use Rattle.std.proofs.Common.{rules, length}
use Rattle.sharding_plans.proofs.AxesLemmas.{passed_on, put_outside, put_shapes, put_no_bytes, put_damaged, put_not_whole}
use Rattle.sharding_plans.proofs.put.put_part.Goals as goal

pub returns-in_err-count-clause-refused : goal.returns-in_err-count-clause-refused
returns-in_err-count-clause-refused c =
    let from = c.args.from.now in let into = c.args.into.now in
    let e = c.in_err-count.field-0.0 in
    passed_on _ e _ c.from_residual-in_err-count.ensures.1
    (put_outside c.args.element_size into.subset.now into.shape.now (length c.args.answer.now) from.subset.now from.shape.now (length c.args.decoded.now)
    c.shape-from_axes.ensures.well_formed c.in_ok-positions.ensures.served e c.in_err-count.ensures.refused)

pub returns-then-ne-clause-refused : goal.returns-then-ne-clause-refused
returns-then-ne-clause-refused c =
    let from = c.args.from.now in let into = c.args.into.now in
    put_shapes c.args.element_size into.subset.now into.shape.now (length c.args.answer.now) from.subset.now from.shape.now (length c.args.decoded.now)
    c.shape-from_axes.ensures.well_formed c.in_ok-positions.ensures.served c.shape-into_axes.ensures.well_formed c.in_ok-count.ensures.served (search rules)

pub returns-then-element_size-eq0-clause-refused : goal.returns-then-element_size-eq0-clause-refused
returns-then-element_size-eq0-clause-refused c =
    let from = c.args.from.now in let into = c.args.into.now in
    put_no_bytes c.args.element_size into.subset.now into.shape.now (length c.args.answer.now) from.subset.now from.shape.now (length c.args.decoded.now)
    c.shape-from_axes.ensures.well_formed c.in_ok-positions.ensures.served c.shape-into_axes.ensures.well_formed c.in_ok-count.ensures.served (search rules) (search rules)

pub returns-then-not-is_whole-clause-refused : goal.returns-then-not-is_whole-clause-refused
returns-then-not-is_whole-clause-refused c =
    let from = c.args.from.now in let into = c.args.into.now in
    put_damaged c.args.element_size into.subset.now into.shape.now (length c.args.answer.now) from.subset.now from.shape.now (length c.args.decoded.now)
    c.shape-from_axes.ensures.well_formed c.in_ok-positions.ensures.served c.shape-into_axes.ensures.well_formed c.in_ok-count.ensures.served (search rules) (search rules) (search rules)

pub returns-then-not-is_whole-2-clause-refused : goal.returns-then-not-is_whole-2-clause-refused
returns-then-not-is_whole-2-clause-refused c =
    let from = c.args.from.now in let into = c.args.into.now in
    put_not_whole c.args.element_size into.subset.now into.shape.now (length c.args.answer.now) from.subset.now from.shape.now (length c.args.decoded.now)
    c.shape-from_axes.ensures.well_formed c.in_ok-positions.ensures.served c.shape-into_axes.ensures.well_formed c.in_ok-count.ensures.served (search rules) (search rules) (search rules) (search rules)
