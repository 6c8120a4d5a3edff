use Rattle.std.proofs.Common.{◌≡◌, ◌≤◌, ◌*◌, ◌++◌, ◌∙◌, length, drop, rules, ap, refl}
use Rattle.parts_subsets.specs.Touched.{AreTouched}
use Rattle.sharding_plans.specs.ReadPlans.{HasEntries, IsPlanOf, IsWithin}
use Rattle.sharding_c.specs.Rows.{rows_of, row_length}
use Rattle.sharding_c.specs.Exports.{CanBeCounted, told_subset}
use Rattle.sharding_c.proofs.RowLemmas.{passed_to}
use Rattle.sharding_c.proofs.PlanRowLemmas.{rows_fit, outside_refused, uncounted_refused}
use Rattle.sharding_c.proofs.plan.plan_subset.Goals as goal

pub returns-in_err-touched-clause-refused : goal.returns-in_err-touched-clause-refused
returns-in_err-touched-clause-refused c =
    let a = c.args in
    let e = c.in_err-touched.field-0.0 in
    let refused = rw (c.in_ok-shard.ensures.shape, c.in_ok-subset.ensures.subset) at c.in_err-touched.ensures.refused in
    passed_to _ e _ c.from_residual-in_err-touched.ensures.1
    (outside_refused a.layout.now a.numbers.now a.subset.now (length a.room.now) c.in_ok-shard.ensures.flags c.in_ok-shard.ensures.laid c.in_ok-subset.ensures.passed e refused)

pub returns-in_default-clause-refused : goal.returns-in_default-clause-refused
returns-in_default-clause-refused c =
    let a = c.args in
    let within : IsWithin a.layout.now.shape.now (told_subset a.subset.now) = rw (c.in_ok-shard.ensures.shape, c.in_ok-subset.ensures.subset) at c.in_ok-touched.ensures.passed in
    let are : AreTouched a.layout.now.shape.now a.layout.now.subchunk_shape.now (told_subset a.subset.now) c.in_ok-touched.touched.items = rw (c.in_ok-shard.ensures.shape, c.in_ok-shard.ensures.subchunk_shape, c.in_ok-subset.ensures.subset) at c.in_ok-touched.ensures.touched in
    let many : ¬ (CanBeCounted a.layout.now (length c.in_ok-touched.touched.items)) = search rules in
    uncounted_refused a.layout.now a.numbers.now a.subset.now (length a.room.now) c.in_ok-shard.ensures.flags c.in_ok-shard.ensures.laid c.in_ok-subset.ensures.passed
    c.in_ok-touched.touched.items within are many

pub write_front-requires : goal.write_front-requires
write_front-requires c =
    let a = c.args in
    let subset = told_subset a.subset.now in
    let touched = c.in_ok-touched.touched.items in
    let plan = c.in_ok-plan.plan in
    let within : IsWithin a.layout.now.shape.now subset = rw (c.in_ok-shard.ensures.shape, c.in_ok-subset.ensures.subset) at c.in_ok-touched.ensures.passed in
    let is : IsPlanOf a.layout.now.shape.now a.layout.now.subchunk_shape.now a.len a.numbers.now subset touched plan =
    rw (c.in_ok-shard.ensures.shape, c.in_ok-shard.ensures.subchunk_shape, c.in_ok-subset.ensures.subset, c.deref.ensures.value) at c.in_ok-plan.ensures.plan in
    let fits : length touched * row_length (length a.layout.now.shape.now) ≤ length a.room.now = search rules in
    rw (c.deref-2.ensures.value, c.in_ok-rows.ensures.rows)
    (rows_fit a.layout.now.shape.now a.layout.now.subchunk_shape.now a.len a.numbers.now subset c.in_ok-shard.ensures.laid.same_axes c.in_ok-subset.ensures.passed within touched plan (length a.room.now) is fits)

pub returns-clause-plan : goal.returns-clause-plan
returns-clause-plan c =
    let a = c.args in
    let subset = told_subset a.subset.now in
    let touched = c.in_ok-touched.touched.items in
    let plan = c.in_ok-plan.plan in
    let rows : c.deref-2.result.now ≡ rows_of plan.parts.items = c.deref-2.ensures.value ∙ c.in_ok-rows.ensures.rows in
    let within : IsWithin a.layout.now.shape.now subset = rw (c.in_ok-shard.ensures.shape, c.in_ok-subset.ensures.subset) at c.in_ok-touched.ensures.passed in
    let are : AreTouched a.layout.now.shape.now a.layout.now.subchunk_shape.now subset touched =
    rw (c.in_ok-shard.ensures.shape, c.in_ok-shard.ensures.subchunk_shape, c.in_ok-subset.ensures.subset) at c.in_ok-touched.ensures.touched in
    let is : IsPlanOf a.layout.now.shape.now a.layout.now.subchunk_shape.now a.len a.numbers.now subset touched plan =
    rw (c.in_ok-shard.ensures.shape, c.in_ok-shard.ensures.subchunk_shape, c.in_ok-subset.ensures.subset, c.deref.ensures.value) at c.in_ok-plan.ensures.plan in
    let entries : HasEntries a.layout.now.shape.now a.layout.now.subchunk_shape.now a.numbers.now =
    rw (c.in_ok-shard.ensures.shape, c.in_ok-shard.ensures.subchunk_shape) at c.in_ok-plan.ensures.passed in
    let count : c.len-2.result ≡ length plan.parts.items = search rules in
    record {
      plan = plan;
      planned = record { touched = touched; are_touched = are; planned = is };
      entries = entries;
      within = within;
      count = count;
      ends = refl;
      written = c.write_front.ensures ∙ ap (λ n. n ++ drop (length n) a.room.now) rows;
    }
