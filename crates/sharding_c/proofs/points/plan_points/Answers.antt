use Rattle.std.proofs.Common.{◌≡◌, ℕ, ◌*◌, ◌/◌, ◌++◌, ◌∙◌, length, drop, ap, refl, sym, subst, inl, inr, arith}
use Rattle.parts_errors.specs.Order.{RefusedBy}
use Rattle.sharding_format.specs.ReadRefusals.{numbers_of}
use Rattle.sharding_plans.specs.ListedPlans.{IsListedPlan, ListRefusals}
use Rattle.sharding_c.specs.Points.{TellsBad, listed, places_of, point_rows}
use Rattle.sharding_c.proofs.RowLemmas.{passed_to}
use Rattle.sharding_c.proofs.PointLemmas.{places_long, rows_long, slots_counted, standings_counted}
use Rattle.sharding_c.proofs.points.plan_points.Goals as goal

pub returns-in_err-plan-clause-refused : goal.returns-in_err-plan-clause-refused
returns-in_err-plan-clause-refused c =
    let a = c.args in
    let e = c.in_err-plan.field-0.0 in
    let refused : RefusedBy (ListRefusals a.layout.now.shape.now a.layout.now.subchunk_shape.now a.stored.now.numbers.now (listed a.layout.now a.points.now (length a.places.now))) e =
    rw (c.in_ok-shard.ensures.shape, c.in_ok-shard.ensures.subchunk_shape, c.in_ok-listed.ensures.points) at c.in_err-plan.ensures.refused in
    passed_to _ e _ c.from_residual-in_err-plan.ensures.1
    (inr (c.in_ok-shard.ensures.flags, inr (c.in_ok-shard.ensures.laid, inr (c.in_ok-listed.ensures.counted, inl (e, refl, refused)))))

pub write_front-requires : goal.write_front-requires
write_front-requires c =
    let a = c.args in
    let plan = c.in_ok-plan.plan in
    let is : IsListedPlan a.layout.now.shape.now a.layout.now.subchunk_shape.now a.stored.now.object_size a.stored.now.numbers.now
    (numbers_of a.layout.now.shape.now (listed a.layout.now a.points.now (length a.places.now)).points) plan =
    rw (c.in_ok-shard.ensures.shape, c.in_ok-shard.ensures.subchunk_shape, c.in_ok-listed.ensures.points) at c.in_ok-plan.ensures.plan in
    let same = slots_counted a.layout.now.shape.now a.layout.now.subchunk_shape.now a.stored.now.object_size (length a.layout.now.shape.now) (length a.places.now) a.stored.now.numbers.now a.points.now plan is c.in_ok-listed.ensures.counted.0 in
    let long = rows_long a.layout.now.shape.now a.layout.now.subchunk_shape.now a.stored.now.object_size (length a.layout.now.shape.now) (length a.places.now) a.stored.now.numbers.now a.points.now plan is c.in_ok-listed.ensures.counted.0 (length plan.elements.subchunks.items) in
    let rows : c.in_ok-made.made.items ≡ point_rows plan.elements.subchunks.items plan.slots.items (length plan.elements.subchunks.items) =
    rw (c.deref.ensures.value, c.deref-2.ensures.value) at c.in_ok-made.ensures.rows in
    let counted : length c.deref-3.result.now ≡ 3 * length plan.elements.subchunks.items = ap length (c.deref-3.ensures.value ∙ rows) ∙ long in
    omega (arith, counted, same, c.len.ensures, c.if-needed-rows.false)

pub copy_from_slice-requires : goal.copy_from_slice-requires
copy_from_slice-requires c =
    let a = c.args in
    let plan = c.in_ok-plan.plan in
    let is : IsListedPlan a.layout.now.shape.now a.layout.now.subchunk_shape.now a.stored.now.object_size a.stored.now.numbers.now
    (numbers_of a.layout.now.shape.now (listed a.layout.now a.points.now (length a.places.now)).points) plan =
    rw (c.in_ok-shard.ensures.shape, c.in_ok-shard.ensures.subchunk_shape, c.in_ok-listed.ensures.points) at c.in_ok-plan.ensures.plan in
    let long = places_long a.layout.now.shape.now a.layout.now.subchunk_shape.now a.stored.now.object_size (length a.layout.now.shape.now) (length a.places.now) a.stored.now.numbers.now a.points.now plan is c.in_ok-listed.ensures.counted.0 in
    sym (ap length c.deref-4.ensures.value ∙ (ap length c.in_ok-placed.ensures.places ∙ long))

pub returns-clause-planned : goal.returns-clause-planned
returns-clause-planned c =
    let a = c.args in
    let plan = c.in_ok-plan.plan in
    let is : IsListedPlan a.layout.now.shape.now a.layout.now.subchunk_shape.now a.stored.now.object_size a.stored.now.numbers.now
    (numbers_of a.layout.now.shape.now (listed a.layout.now a.points.now (length a.places.now)).points) plan =
    rw (c.in_ok-shard.ensures.shape, c.in_ok-shard.ensures.subchunk_shape, c.in_ok-listed.ensures.points) at c.in_ok-plan.ensures.plan in
    let same = slots_counted a.layout.now.shape.now a.layout.now.subchunk_shape.now a.stored.now.object_size (length a.layout.now.shape.now) (length a.places.now) a.stored.now.numbers.now a.points.now plan is c.in_ok-listed.ensures.counted.0 in
    let standings = standings_counted a.layout.now.shape.now a.layout.now.subchunk_shape.now a.stored.now.object_size (length a.layout.now.shape.now) (length a.places.now) a.stored.now.numbers.now a.points.now plan is c.in_ok-listed.ensures.counted.0 in
    let rows : c.in_ok-made.made.items ≡ point_rows plan.elements.subchunks.items plan.slots.items (length plan.elements.subchunks.items) =
    rw (c.deref.ensures.value, c.deref-2.ensures.value) at c.in_ok-made.ensures.rows in
    let count : c.len-2.result ≡ length plan.elements.subchunks.items = omega (arith, c.len-2.ensures, same) in
    let made : c.deref-3.result.now ≡ point_rows plan.elements.subchunks.items plan.slots.items c.len-2.result =
    c.deref-3.ensures.value ∙ (rows ∙ ap (point_rows plan.elements.subchunks.items plan.slots.items) (sym count)) in
    let tells : TellsBad plan.elements.subchunks.items plan.slots.items c.first_bad.result = rw (c.deref-5.ensures.value, c.deref-6.ensures.value) at c.first_bad.ensures in
    let long : length c.copy_from_slice.new.self ≡ length a.places.now = c.copy_from_slice.ensures.len in
    let told = λ (n : ℕ). IsListedPlan a.layout.now.shape.now a.layout.now.subchunk_shape.now a.stored.now.object_size a.stored.now.numbers.now
    (numbers_of a.layout.now.shape.now (listed a.layout.now a.points.now n).points) plan in
    record {
      plan = plan;
      planned = subst told (sym long) is;
      count = count;
      tells_bad = tells;
      written = c.write_front.ensures ∙ ap (λ n. n ++ drop (length n) a.rows.now) made;
      placed = c.copy_from_slice.ensures.after ∙ (c.deref-4.ensures.value ∙ (c.in_ok-placed.ensures.places ∙ ap (places_of plan.elements) (standings ∙ ap (λ n. n / 2) (sym long))));
    }
