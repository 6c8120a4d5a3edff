use Rattle.std.proofs.Common.{inr, arith}
use Rattle.sharding_plans.proofs.AxesLemmas.{passed_on}
use Rattle.sharding_plans.proofs.WriteLemmas.{total_is, total_refused}
use Rattle.sharding_plans.proofs.write_plan.total_size.Goals as goal

pub returns-clause-total : goal.returns-clause-total
returns-clause-total c =
    let index = c.in_ok-index.index in
    let e = c.in_ok-index.ensures in
    omega (arith, c.in_ok-total.ensures.size, total_is index.len c.args.sizes.now index.numbers.items e.counted e.slots)

pub returns-in_err-total-clause-refused : goal.returns-in_err-total-clause-refused
returns-in_err-total-clause-refused c =
    let index = c.in_ok-index.index in
    let e = c.in_ok-index.ensures in
    passed_on _ c.in_err-total.field-0.0 _ c.from_residual-in_err-total.ensures.1
    (total_refused index.len c.args.sizes.now index.numbers.items e.counted e.slots c.in_err-total.field-0.0 (inr c.in_err-total.ensures.refused))
