use Rattle.std.proofs.lemmas.Result.{IfErr-weaker}
use Rattle.parts_arrays.specs.ArraySpec.{array_spec}
use Rattle.parts_subsets.specs.Grid.{grid_of}
use Rattle.sharding_format.specs.Index.{index_spec}
use Rattle.sharding_format.specs.Serves.{subchunk_spec}
use Rattle.sharding_format.proofs.PlanLemmas.{some_subchunks, some_positions}
use Rattle.sharding_format.proofs.CompactRefusals.{may_refuse_compact}
use Rattle.sharding_engine.proofs.sharding.ShardingArrayToBytesCodecTraits.compact.Goals as goal

pub returns-clause-compacted : goal.returns-clause-compacted
returns-clause-compacted g c = c.compacted.ensures.compacted c.args.fill_value.now c.args.self.now.order

pub returns-clause-kept : goal.returns-clause-kept
returns-clause-kept g c = c.compacted.ensures.kept c.args.fill_value.now c.args.self.now.order

pub returns-clause-lawful : goal.returns-clause-lawful
returns-clause-lawful g c =
    let a = c.args in
    let s = a.self.now in
    let sub = s.subchunk_shape.now in
    let spec = array_spec a.shape.now a.data_type.now a.fill_value.now in
    let inner = g.I.ArrayToBytesCodecTraits.meaning s.inner.now (subchunk_spec sub spec) in
    let index = g.X.ArrayToBytesCodecTraits.meaning s.index_codec.codec.now (index_spec (grid_of a.shape.now sub)) in
    let positive = c.compacted.ensures.positive in
    IfErr-weaker c.compacted.result _ _ (λ e refused serves.
    may_refuse_compact inner index sub s.index_codec.location s.order spec a.bytes.now e serves
    (some_subchunks a.shape.now sub positive serves.divides) (some_positions a.shape.now sub positive serves.divides) refused)
    (c.compacted.ensures.refused a.fill_value.now s.order)

pub returns-clause-refused : goal.returns-clause-refused
returns-clause-refused g c = c.compacted.ensures.refused c.args.fill_value.now c.args.self.now.order
