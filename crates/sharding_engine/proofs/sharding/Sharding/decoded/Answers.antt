use Rattle.std.proofs.lemmas.Result.{IfErr-weaker}
use Rattle.parts_subsets.specs.Grid.{grid_of}
use Rattle.sharding_format.specs.Index.{index_spec}
use Rattle.sharding_format.specs.Serves.{subchunk_spec}
use Rattle.sharding_format.proofs.RefusalLemmas.{lawful}
use Rattle.sharding_index.specs.steps.Plans.{spec_of}
use Rattle.sharding_engine.proofs.sharding.Sharding.decoded.Goals as goal

pub returns-clause-cells : goal.returns-clause-cells
returns-clause-cells g c = c.decode_shard.ensures.cells c.args.self.now.order

pub returns-clause-lawful : goal.returns-clause-lawful
returns-clause-lawful g c =
    let s = c.args.self.now in
    let spec = spec_of c.args.planned.now.spec in
    let inner = g.I.ArrayToBytesCodecTraits.meaning s.inner.now (subchunk_spec s.subchunk_shape.now spec) in
    let index = g.X.ArrayToBytesCodecTraits.meaning s.index_codec.codec.now (index_spec (grid_of spec.shape s.subchunk_shape.now)) in
    let plan = c.requires.plan in
    IfErr-weaker c.decode_shard.result _ _ (λ e refusals. lawful inner index s.subchunk_shape.now s.index_codec.location s.order spec c.args.bytes.now e
    c.requires.serves (rw plan.subchunks at plan.some) plan.positions
    ((g.met.I.ArrayToBytesCodecTraits.lawful s.inner.now _).cells_counted) ((g.met.X.ArrayToBytesCodecTraits.lawful s.index_codec.codec.now _).cells_counted) ((g.met.X.ArrayToBytesCodecTraits.lawful s.index_codec.codec.now _).cells_fitting)
    refusals) (c.decode_shard.ensures.refused s.order)

pub returns-clause-refused : goal.returns-clause-refused
returns-clause-refused g c = c.decode_shard.ensures.refused c.args.self.now.order
