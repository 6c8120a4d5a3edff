use Rattle.std.proofs.Common.{arith, refl}
use Rattle.sharding_plans.specs.WritePlans.{WriteRefusals}
use Rattle.sharding_c.specs.Layouts.{index_place}
use Rattle.sharding_c.specs.Exports.{told_subset}
use Rattle.sharding_c.proofs.RowLemmas.{passed_to}
use Rattle.sharding_c.proofs.ChangeLemmas.{after_room, after_start}
use Rattle.sharding_c.proofs.change.write.Goals as goal

pub returns-clause-planned : goal.returns-clause-planned
returns-clause-planned c =
    let s = c.in_ok-shard.ensures in
    record {
      plan = c.in_ok-plan.plan;
      planned = rw (s.shape, s.subchunk_shape, c.place_of-place.ensures, c.in_ok-subset.ensures.subset) at c.in_ok-plan.ensures.plan;
      written = rw c.deref.ensures.value at c.write_front.ensures;
      long = refl;
      kind_is = c.kind_of.ensures;
    }

pub returns-in_err-plan-clause-refused : goal.returns-in_err-plan-clause-refused
returns-in_err-plan-clause-refused c =
    let a = c.args in
    let s = c.in_ok-shard.ensures in
    let e = c.in_err-plan.field-0.0 in
    passed_to _ e _ c.from_residual-in_err-plan.ensures.1
    (after_room c.args.layout.now _ _ e s.flags s.laid (omega (arith, c.if-many-room.false, s.subchunks))
    (after_start c.args.subset.now.start.now c.args.subset.now.shape.now (WriteRefusals a.layout.now.shape.now a.layout.now.subchunk_shape.now (index_place a.layout.now) a.stored.now.object_size a.stored.now.numbers.now (told_subset a.subset.now) a.sizes.now) e c.in_ok-subset.ensures.passed
    (rw (s.shape, s.subchunk_shape, c.place_of-place.ensures, c.in_ok-subset.ensures.subset) at c.in_err-plan.ensures.refused)))
