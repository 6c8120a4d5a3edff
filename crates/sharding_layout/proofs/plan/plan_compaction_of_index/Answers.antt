use Rattle.std.proofs.Common.{◌≡◌, ◌≤◌, arith}
use Rattle.std.proofs.lemmas.Result.{IfErr-weaker}
use Rattle.parts_subsets.specs.Grid.{grid_of}
use Rattle.codec_traits.specs.Meanings.{Meaning}
use Rattle.sharding_format.specs.Cells.{Layout}
use Rattle.sharding_format.specs.Serves.{fixed_size}
use Rattle.sharding_index.specs.Indexes.{index_meaning}
use Rattle.sharding_layout.proofs.PlannedLemmas.{numbered}
use Rattle.sharding_layout.proofs.plan.plan_compaction_of_index.Goals as goal

pub returns-clause-refused : goal.returns-clause-refused
returns-clause-refused g c = λ fill order.
    let a = c.args in
    let sub = a.subchunk_shape.now in
    let location = a.index_codec.now.location in
    let index : Meaning = index_meaning g.X.ArrayToBytesCodecTraits.meaning a.index_codec.now.codec.now (grid_of a.shape.now sub) in
    let l : Layout = record { shape = a.shape.now; sub = sub; fill = fill; location = location; index_size = fixed_size index.representation; order = order } in
    let plan = c.in_ok-tested.ensures.plan in
    let sized : c.in_ok-tested.tested.index.size ≡ l.index_size = rw plan.grid at plan.index.size in
    let enough : l.index_size ≤ a.index.len = omega (arith, c.if-index-tested.false, sized) in
    IfErr-weaker c.planned_of.result _ _
    (λ e refused. numbered index l a.index.len a.index.numbers.items c.in_ok-tested.ensures.served enough e refused)
    (c.planned_of.ensures.refused fill order)
