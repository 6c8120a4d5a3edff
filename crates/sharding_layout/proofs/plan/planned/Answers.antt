use Rattle.std.proofs.Common.{◌≡◌, ◌≤◌, ◌∙◌, sym, arith}
use Rattle.std.proofs.lemmas.Result.{IfErr-weaker, on_ok_weaker}
use Rattle.parts_subsets.specs.Grid.{grid_of}
use Rattle.codec_traits.specs.Meanings.{Meaning}
use Rattle.codec_traits.specs.RefusalLaws.{passed_on}
use Rattle.sharding_format.specs.Cells.{Layout}
use Rattle.sharding_format.specs.Serves.{fixed_size}
use Rattle.sharding_format.proofs.RefusalLemmas.{long_enough}
use Rattle.sharding_index.specs.Indexes.{index_meaning}
use Rattle.sharding_layout.proofs.PlanLemmas.{numbers_there}
use Rattle.sharding_layout.proofs.PlannedLemmas.{index_tested, numbers_tested, numbers_compacted}
use Rattle.sharding_layout.proofs.plan.planned.Goals as goal

pub returns-clause-planned : goal.returns-clause-planned
returns-clause-planned g c = λ fill order object long same.
    let a = c.args in
    let sub = a.subchunk_shape.now in
    let location = a.index_codec.now.location in
    let index : Meaning = index_meaning g.X.ArrayToBytesCodecTraits.meaning a.index_codec.now.codec.now (grid_of a.shape.now sub) in
    let l : Layout = record { shape = a.shape.now; sub = sub; fill = fill; location = location; index_size = fixed_size index.representation; order = order } in
    let plan = c.requires.plan in
    let bytes = a.stored.now.bytes.now in
    let numbers = c.in_ok-old_index.old_index.numbers.items in
    let len : c.in_ok-old_index.old_index.len ≡ a.stored.now.len = c.in_ok-old_index.ensures.len in
    let told = rw (plan.index.size, plan.grid) at c.in_ok-old_index.ensures.numbers in
    let sized : a.plan.now.index.size ≡ l.index_size = rw plan.grid at plan.index.size in
    let enough : l.index_size ≤ a.stored.now.len = omega (arith, c.in_ok-old_index.ensures.enough, sized) in
    let there = numbers_there index.cells location l.index_size bytes object numbers (omega (arith, enough, long)) same told in
    rw len at (c.planned_of.ensures.planned fill order object (long ∙ sym len) there)

pub returns-clause-kept : goal.returns-clause-kept
returns-clause-kept g c = λ fill order object long same.
    let a = c.args in
    let sub = a.subchunk_shape.now in
    let location = a.index_codec.now.location in
    let index : Meaning = index_meaning g.X.ArrayToBytesCodecTraits.meaning a.index_codec.now.codec.now (grid_of a.shape.now sub) in
    let l : Layout = record { shape = a.shape.now; sub = sub; fill = fill; location = location; index_size = fixed_size index.representation; order = order } in
    let plan = c.requires.plan in
    let bytes = a.stored.now.bytes.now in
    let numbers = c.in_ok-old_index.old_index.numbers.items in
    let len : c.in_ok-old_index.old_index.len ≡ a.stored.now.len = c.in_ok-old_index.ensures.len in
    let told = rw (plan.index.size, plan.grid) at c.in_ok-old_index.ensures.numbers in
    let sized : a.plan.now.index.size ≡ l.index_size = rw plan.grid at plan.index.size in
    let enough : l.index_size ≤ a.stored.now.len = omega (arith, c.in_ok-old_index.ensures.enough, sized) in
    let there = numbers_there index.cells location l.index_size bytes object numbers (omega (arith, enough, long)) same told in
    c.planned_of.ensures.kept fill order object (long ∙ sym len) there

pub returns-clause-passed : goal.returns-clause-passed
returns-clause-passed g c = λ fill order.
    let a = c.args in
    let sub = a.subchunk_shape.now in
    let location = a.index_codec.now.location in
    let index : Meaning = index_meaning g.X.ArrayToBytesCodecTraits.meaning a.index_codec.now.codec.now (grid_of a.shape.now sub) in
    let l : Layout = record { shape = a.shape.now; sub = sub; fill = fill; location = location; index_size = fixed_size index.representation; order = order } in
    let plan = c.requires.plan in
    let bytes = a.stored.now.bytes.now in
    let numbers = c.in_ok-old_index.old_index.numbers.items in
    let len : c.in_ok-old_index.old_index.len ≡ a.stored.now.len = c.in_ok-old_index.ensures.len in
    let told = rw (plan.index.size, plan.grid) at c.in_ok-old_index.ensures.numbers in
    let sized : a.plan.now.index.size ≡ l.index_size = rw plan.grid at plan.index.size in
    let enough : l.index_size ≤ a.stored.now.len = omega (arith, c.in_ok-old_index.ensures.enough, sized) in
    on_ok_weaker c.planned_of.result
    (λ entries. record { numbers = numbers; enough = long_enough index.cells location l.index_size bytes numbers told; told = told; entries = rw len at entries })
    (c.planned_of.ensures.passed fill order)

pub returns-clause-refused : goal.returns-clause-refused
returns-clause-refused g c = λ fill order object long same.
    let a = c.args in
    let sub = a.subchunk_shape.now in
    let location = a.index_codec.now.location in
    let index : Meaning = index_meaning g.X.ArrayToBytesCodecTraits.meaning a.index_codec.now.codec.now (grid_of a.shape.now sub) in
    let l : Layout = record { shape = a.shape.now; sub = sub; fill = fill; location = location; index_size = fixed_size index.representation; order = order } in
    let plan = c.requires.plan in
    let bytes = a.stored.now.bytes.now in
    let numbers = c.in_ok-old_index.old_index.numbers.items in
    let len : c.in_ok-old_index.old_index.len ≡ a.stored.now.len = c.in_ok-old_index.ensures.len in
    let told = rw (plan.index.size, plan.grid) at c.in_ok-old_index.ensures.numbers in
    let sized : a.plan.now.index.size ≡ l.index_size = rw plan.grid at plan.index.size in
    let enough : l.index_size ≤ a.stored.now.len = omega (arith, c.in_ok-old_index.ensures.enough, sized) in
    let there = numbers_there index.cells location l.index_size bytes object numbers (omega (arith, enough, long)) same told in
    IfErr-weaker c.planned_of.result _ _
    (λ e refused. numbers_compacted index l bytes a.stored.now.len c.requires.served enough numbers told object long there e (rw len at refused))
    (c.planned_of.ensures.refused fill order)

pub returns-in_err-old_index-clause-tested : goal.returns-in_err-old_index-clause-tested
returns-in_err-old_index-clause-tested g c = λ fill order.
    let a = c.args in
    let sub = a.subchunk_shape.now in
    let location = a.index_codec.now.location in
    let index : Meaning = index_meaning g.X.ArrayToBytesCodecTraits.meaning a.index_codec.now.codec.now (grid_of a.shape.now sub) in
    let l : Layout = record { shape = a.shape.now; sub = sub; fill = fill; location = location; index_size = fixed_size index.representation; order = order } in
    let plan = c.requires.plan in
    let bytes = a.stored.now.bytes.now in
    let e = c.in_err-old_index.field-0.0 in
    passed_on _ e _ c.from_residual.ensures.1
    (index_tested index l bytes a.stored.now.len c.requires.served e (rw (plan.index.size, plan.grid) at c.in_err-old_index.ensures.refused))

pub returns-clause-tested : goal.returns-clause-tested
returns-clause-tested g c = λ fill order.
    let a = c.args in
    let sub = a.subchunk_shape.now in
    let location = a.index_codec.now.location in
    let index : Meaning = index_meaning g.X.ArrayToBytesCodecTraits.meaning a.index_codec.now.codec.now (grid_of a.shape.now sub) in
    let l : Layout = record { shape = a.shape.now; sub = sub; fill = fill; location = location; index_size = fixed_size index.representation; order = order } in
    let plan = c.requires.plan in
    let bytes = a.stored.now.bytes.now in
    let numbers = c.in_ok-old_index.old_index.numbers.items in
    let len : c.in_ok-old_index.old_index.len ≡ a.stored.now.len = c.in_ok-old_index.ensures.len in
    let told = rw (plan.index.size, plan.grid) at c.in_ok-old_index.ensures.numbers in
    let sized : a.plan.now.index.size ≡ l.index_size = rw plan.grid at plan.index.size in
    let enough : l.index_size ≤ a.stored.now.len = omega (arith, c.in_ok-old_index.ensures.enough, sized) in
    IfErr-weaker c.planned_of.result _ _
    (λ e refused. numbers_tested index l bytes a.stored.now.len c.requires.served enough numbers told e (rw len at refused))
    (c.planned_of.ensures.refused fill order)
