use Rattle.std.proofs.Common.{◌≡◌, length, rules}
use Rattle.sharding_plans.proofs.AxesLemmas.{passed_on}
use Rattle.sharding_plans.proofs.WriteLemmas.{too_large}
use Rattle.sharding_plans.proofs.grid.PlannedShard.plan_write.Goals as goal

pub returns-in_err-plan-clause-refused : goal.returns-in_err-plan-clause-refused
returns-in_err-plan-clause-refused c =
    let a = c.args in
    let s = a.self.now in
    let n = c.in_ok-numbers.ensures in
    let t = c.in_ok-touched.ensures in
    let counted : length a.sizes.now ≡ length c.in_ok-touched.touched.items = search rules in
    passed_on _ c.in_err-plan.field-0.0 _ c.from_residual-in_err-plan.ensures.1
    (too_large s.shape s.subchunk_shape a.place a.index.now.len a.index.now.numbers.now a.subset.now a.sizes.now c.in_ok-touched.touched.items c.in_ok-total.total
    c.in_err-plan.field-0.0 n.entries n.room n.inside t.passed t.touched counted c.in_ok-total.ensures.total
    (rw c.deref.ensures.value at c.in_err-plan.ensures.refused))
