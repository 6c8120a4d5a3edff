use Rattle.std.proofs.Common.{◌≡◌, ◌≤◌, ◌<◌, ◌^◌, ◌*◌, ◌++◌, ◌∙◌, length, drop, rules, ap}
use Rattle.parts_subsets.specs.Touched.{AreTouched}
use Rattle.sharding_plans.specs.Chunks.{IsMeeting, whole_chunks}
use Rattle.sharding_plans.specs.ReadPlans.{IsWithin}
use Rattle.sharding_c.specs.Rows.{rows_of, row_length}
use Rattle.sharding_c.specs.Exports.{told_subset}
use Rattle.sharding_c.proofs.RowLemmas.{passed_to}
use Rattle.sharding_c.proofs.PlanRowLemmas.{met_rows_fit, outside_array, uncounted_chunks}
use Rattle.sharding_c.proofs.meet.meet_chunks.Goals as goal

pub returns-in_err-touched-clause-refused : goal.returns-in_err-touched-clause-refused
returns-in_err-touched-clause-refused c =
    let a = c.args in
    let e = c.in_err-touched.field-0.0 in
    let refused = rw (c.in_ok-array.ensures.shape, c.in_ok-subset.ensures.subset) at c.in_err-touched.ensures.refused in
    passed_to _ e _ c.from_residual-in_err-touched.ensures.1
    (outside_array a.shape.now a.chunk_shape.now a.subset.now (length a.room.now) c.in_ok-array.ensures.chunked c.in_ok-subset.ensures.passed e refused)

pub returns-in_default-clause-refused : goal.returns-in_default-clause-refused
returns-in_default-clause-refused c =
    let a = c.args in
    let within : IsWithin a.shape.now (told_subset a.subset.now) = rw (c.in_ok-array.ensures.shape, c.in_ok-subset.ensures.subset) at c.in_ok-touched.ensures.passed in
    let are : AreTouched (whole_chunks a.shape.now a.chunk_shape.now) a.chunk_shape.now (told_subset a.subset.now) c.in_ok-touched.touched.items = rw (c.in_ok-array.ensures.shape, c.in_ok-array.ensures.chunk_shape, c.in_ok-subset.ensures.subset) at c.in_ok-touched.ensures.touched in
    let many : ¬ (row_length (length a.shape.now) < 2 ^ 64 × length c.in_ok-touched.touched.items * row_length (length a.shape.now) < 2 ^ 64) = search rules in
    uncounted_chunks a.shape.now a.chunk_shape.now a.subset.now (length a.room.now) c.in_ok-array.ensures.chunked c.in_ok-subset.ensures.passed
    c.in_ok-touched.touched.items within are many

pub write_front-requires : goal.write_front-requires
write_front-requires c =
    let a = c.args in
    let subset = told_subset a.subset.now in
    let touched = c.in_ok-touched.touched.items in
    let plan = c.in_ok-plan.plan in
    let within : IsWithin a.shape.now subset = rw (c.in_ok-array.ensures.shape, c.in_ok-subset.ensures.subset) at c.in_ok-touched.ensures.passed in
    let is : IsMeeting (whole_chunks a.shape.now a.chunk_shape.now) a.chunk_shape.now subset touched plan =
    rw (c.in_ok-array.ensures.shape, c.in_ok-array.ensures.chunk_shape, c.in_ok-subset.ensures.subset, c.deref.ensures.value) at c.in_ok-plan.ensures.plan in
    let fits : length touched * row_length (length a.shape.now) ≤ length a.room.now = search rules in
    rw (c.deref-2.ensures.value, c.in_ok-rows.ensures.rows)
    (met_rows_fit a.shape.now a.chunk_shape.now subset touched plan (length a.room.now) c.in_ok-array.ensures.chunked.same_axes c.in_ok-subset.ensures.passed within is fits)

pub returns-clause-met : goal.returns-clause-met
returns-clause-met c =
    let a = c.args in
    let subset = told_subset a.subset.now in
    let touched = c.in_ok-touched.touched.items in
    let plan = c.in_ok-plan.plan in
    let rows : c.deref-2.result.now ≡ rows_of plan.parts.items = c.deref-2.ensures.value ∙ c.in_ok-rows.ensures.rows in
    let within : IsWithin a.shape.now subset = rw (c.in_ok-array.ensures.shape, c.in_ok-subset.ensures.subset) at c.in_ok-touched.ensures.passed in
    let are : AreTouched (whole_chunks a.shape.now a.chunk_shape.now) a.chunk_shape.now subset touched =
    rw (c.in_ok-array.ensures.shape, c.in_ok-array.ensures.chunk_shape, c.in_ok-subset.ensures.subset) at c.in_ok-touched.ensures.touched in
    let is : IsMeeting (whole_chunks a.shape.now a.chunk_shape.now) a.chunk_shape.now subset touched plan =
    rw (c.in_ok-array.ensures.shape, c.in_ok-array.ensures.chunk_shape, c.in_ok-subset.ensures.subset, c.deref.ensures.value) at c.in_ok-plan.ensures.plan in
    let count : c.len-2.result ≡ length touched = search rules in
    record {
      touched = touched;
      are_touched = are;
      plan = plan;
      meeting = is;
      within = within;
      count = count;
      written = c.write_front.ensures ∙ ap (λ n. n ++ drop (length n) a.room.now) rows;
    }
