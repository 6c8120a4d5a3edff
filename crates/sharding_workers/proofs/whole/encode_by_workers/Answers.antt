use Rattle.std.proofs.Common.{inl, inr}
use Rattle.parts_subsets.specs.Grid.{grid_of}
use Rattle.sharding_index.specs.steps.Plans.{spec_of}
use Rattle.parts_arrays.specs.Types.{size_of}
use Rattle.sharding_format.specs.Index.{index_spec}
use Rattle.sharding_format.specs.Serves.{subchunk_spec}
use Rattle.sharding_engine.specs.Meanings.{shard_layout, sharded_meaning}
use Rattle.sharding_format.proofs.EncodeRefusals.{refused_as, may_refuse_encode}
use Rattle.sharding_workers.proofs.whole.encode_by_workers.Goals as goal

pub returns-clause-lawful : goal.returns-clause-lawful
returns-clause-lawful g c =
    let s = c.args.sharding.now in
    let spec = spec_of c.args.spec.now in
    let inner = g.I.ArrayToBytesCodecTraits in
    let outer = g.X.ArrayToBytesCodecTraits in
    let inner_g = subchunk_spec s.subchunk_shape.now spec in
    let index_g = index_spec (grid_of spec.shape s.subchunk_shape.now) in
    refused_as c.encode_planned_by_workers.result _ _
    (λ e refusals served kind array.
    let l = shard_layout s (outer.meaning s.index_codec.codec.now index_g) spec in
    let whole = sharded_meaning s.subchunk_shape.now s.index_codec.location s.order (inner.meaning s.inner.now inner_g) (outer.meaning s.index_codec.codec.now index_g) spec in
    may_refuse_encode (inner.meaning s.inner.now inner_g) (outer.meaning s.index_codec.codec.now index_g) l (size_of c.args.spec.now.data_type.now) c.args.bytes.now whole e (λ h. h) (λ h. h) kind array.counted refusals)
    c.encode_planned_by_workers.ensures.refused

pub returns-clause-refused : goal.returns-clause-refused
returns-clause-refused g c =
    refused_as c.encode_planned_by_workers.result _ _
    (λ e refused. elim refused [ inl memory ↦ inl memory | inr refusals ↦ inr (inr (c.in_ok-plan.ensures.serves, refusals)) ])
    c.encode_planned_by_workers.ensures.refused
