use Rattle.std.proofs.Common.{inl, inr}
use Rattle.std.proofs.lemmas.Result.{IfErr-weaker}
use Rattle.parts_subsets.specs.Grid.{grid_of}
use Rattle.parts_arrays.specs.ArraySpec.{array_spec}
use Rattle.parts_arrays.specs.Types.{size_of}
use Rattle.sharding_format.specs.Index.{index_spec}
use Rattle.sharding_format.specs.Serves.{subchunk_spec}
use Rattle.sharding_format.proofs.EncodeRefusals.{may_refuse_encode}
use Rattle.sharding_engine.specs.Meanings.{shard_layout, sharded_meaning}
use Rattle.sharding_engine.proofs.sharding.ShardingArrayToBytesCodecTraits.encode_onto.Goals as goal

pub returns-clause-lawful : goal.returns-clause-lawful
returns-clause-lawful g c =
    let s = c.args.self.now in
    let spec = array_spec c.args.shape.now c.args.data_type.now c.args.fill_value.now in
    let inner = g.I.ArrayToBytesCodecTraits.meaning s.inner.now (subchunk_spec s.subchunk_shape.now spec) in
    let index = g.X.ArrayToBytesCodecTraits.meaning s.index_codec.codec.now (index_spec (grid_of spec.shape s.subchunk_shape.now)) in
    let whole = sharded_meaning s.subchunk_shape.now s.index_codec.location s.order inner index spec in
    IfErr-weaker c.encode_or_cut.result _ _
    (λ e refusals served kind array. may_refuse_encode inner index (shard_layout s index spec) (size_of c.args.data_type.now) c.args.bytes.now whole e (λ h. h) (λ h. h) kind array.counted refusals)
    c.encode_or_cut.ensures.refused

pub returns-clause-refused : goal.returns-clause-refused
returns-clause-refused g c =
    IfErr-weaker c.encode_or_cut.result _ _ (λ e refused. elim refused [
      | inl memory ↦ inl memory
      | inr refusals ↦ inr (inr (c.in_ok-plan.ensures.serves, refusals))
    ]) c.encode_or_cut.ensures.refused
