use Rattle.std.proofs.Common.{◌≡◌, ◌∙◌, ◌<◌, ◌+◌, arith, rules, length, inr}
use Rattle.parts_row_major.specs.Numbering.{count_of}
use Rattle.parts_subsets.specs.Grid.{grid_of}
use Rattle.sharding_index.specs.steps.Plans.{spec_of}
use Rattle.parts_arrays.specs.Types.{size_of}
use Rattle.sharding_format.specs.Index.{absent_number, index_spec, data_start}
use Rattle.sharding_format.specs.Laying.{IsIndexOf}
use Rattle.sharding_format.specs.Serves.{subchunk_spec, fixed_size}
use Rattle.sharding_engine.specs.Meanings.{shard_layout}
use Rattle.codec_traits.specs.RefusalLaws.{passed_on}
use Rattle.sharding_format.specs.WriteOrder.{numbers_in_order}
use Rattle.sharding_format.specs.WriteOrderLaws.{order_permutes, order_counted}
use Rattle.sharding_format.proofs.EncodingLemmas.{encoded_shard, room_stored}
use Rattle.sharding_format.proofs.EncodeRefusals.{store_next, total_next, index_next, index_length}
use Rattle.sharding_workers.proofs.whole.encode_planned_by_workers.Goals as goal

pub lay_out_subchunks-requires-clause-order : goal.lay_out_subchunks-requires-clause-order
lay_out_subchunks-requires-clause-order g c = λ κs within. rw c.in_ok-sequence.ensures (order_permutes c.args.sharding.now.order c.args.planned.now.plan.now.index.grid)

pub encode-requires-clause-counted : goal.encode-requires-clause-counted
encode-requires-clause-counted g c =
    let s = c.args.sharding.now in
    let grid = grid_of c.args.planned.now.spec.shape.now s.subchunk_shape.now in
    let stored_slices = rw (c.in_ok-sequence.ensures, c.requires.plan.grid) at c.in_ok-stored_slices.ensures.stored_slices in
    rw (c.deref.ensures.value, c.requires.plan.grid) (stored_slices.counted ∙ order_counted (count_of grid) (numbers_in_order s.order grid) (order_permutes s.order grid))

pub encode-requires-clause-room : goal.encode-requires-clause-room
encode-requires-clause-room g c =
    let s = c.args.sharding.now in
    let spec = spec_of c.args.planned.now.spec in
    let inner = g.I.ArrayToBytesCodecTraits.meaning s.inner.now (subchunk_spec s.subchunk_shape.now spec) in
    let grid = grid_of c.args.planned.now.spec.shape.now s.subchunk_shape.now in
    let stored_slices = rw (c.in_ok-sequence.ensures, c.requires.plan.grid) at c.in_ok-stored_slices.ensures.stored_slices in
    rw c.deref.ensures.value (room_stored inner.written spec.fill spec.shape s.subchunk_shape.now c.args.array.now.elements c.in_ok-stored_slices.stored_slices.bytes.items c.in_ok-stored_slices.stored_slices.slots.items
    (numbers_in_order s.order grid) (count_of grid) c.args.planned.now.plan.now.index.size s.index_codec.location (order_permutes s.order grid) stored_slices
    (omega (arith, c.if-plan-len.false, c.len-len.ensures, c.in_ok-stored_slices.stored_slices.bytes.ok.0)))

pub returns-in_err-stored_slices-clause-refused : goal.returns-in_err-stored_slices-clause-refused
returns-in_err-stored_slices-clause-refused g c =
    let s = c.args.sharding.now in
    let spec = spec_of c.args.planned.now.spec in
    let inner = g.I.ArrayToBytesCodecTraits.meaning s.inner.now (subchunk_spec s.subchunk_shape.now spec) in
    let index = g.X.ArrayToBytesCodecTraits.meaning s.index_codec.codec.now (index_spec (grid_of spec.shape s.subchunk_shape.now)) in
    let kind : c.args.array.now.kind ≡ size_of c.args.planned.now.spec.data_type.now = search rules in
    let counted : length c.args.array.now.elements ≡ count_of c.args.planned.now.spec.shape.now = omega (arith, c.requires.plan.cells) in
    let e = c.in_err-stored_slices.field-0.0 in
    passed_on _ e _ c.from_residual-in_err-stored_slices.ensures.1 (store_next inner index (shard_layout s index spec) (size_of c.args.planned.now.spec.data_type.now) c.args.array.now e kind counted (rw c.requires.plan.grid at c.in_err-stored_slices.ensures.refused))

pub returns-then-plan-len-clause-refused : goal.returns-then-plan-len-clause-refused
returns-then-plan-len-clause-refused g c =
    let s = c.args.sharding.now in
    let spec = spec_of c.args.planned.now.spec in
    let inner = g.I.ArrayToBytesCodecTraits.meaning s.inner.now (subchunk_spec s.subchunk_shape.now spec) in
    let index = g.X.ArrayToBytesCodecTraits.meaning s.index_codec.codec.now (index_spec (grid_of spec.shape s.subchunk_shape.now)) in
    let kind : c.args.array.now.kind ≡ size_of c.args.planned.now.spec.data_type.now = search rules in
    let counted : length c.args.array.now.elements ≡ count_of c.args.planned.now.spec.shape.now = omega (arith, c.requires.plan.cells) in
    let order = numbers_in_order s.order (grid_of c.args.planned.now.spec.shape.now s.subchunk_shape.now) in
    let permutes = order_permutes s.order (grid_of c.args.planned.now.spec.shape.now s.subchunk_shape.now) in
    let stored_slices = rw (c.in_ok-sequence.ensures, c.requires.plan.grid) at c.in_ok-stored_slices.ensures.stored_slices in
    let room = rw c.requires.plan.grid at c.requires.plan.index.size in
    inr (total_next inner index (shard_layout s index spec) (size_of c.args.planned.now.spec.data_type.now) c.args.array.now c.in_ok-stored_slices.stored_slices.bytes.items c.in_ok-stored_slices.stored_slices.slots.items order permutes stored_slices kind counted
    (omega (arith, c.if-plan-len.true, c.len-len.ensures, c.in_ok-stored_slices.stored_slices.bytes.ok.0, room)))

pub returns-in_err-index-clause-refused : goal.returns-in_err-index-clause-refused
returns-in_err-index-clause-refused g c =
    let s = c.args.sharding.now in
    let spec = spec_of c.args.planned.now.spec in
    let inner = g.I.ArrayToBytesCodecTraits.meaning s.inner.now (subchunk_spec s.subchunk_shape.now spec) in
    let index = g.X.ArrayToBytesCodecTraits.meaning s.index_codec.codec.now (index_spec (grid_of spec.shape s.subchunk_shape.now)) in
    let kind : c.args.array.now.kind ≡ size_of c.args.planned.now.spec.data_type.now = search rules in
    let counted : length c.args.array.now.elements ≡ count_of c.args.planned.now.spec.shape.now = omega (arith, c.requires.plan.cells) in
    let order = numbers_in_order s.order (grid_of c.args.planned.now.spec.shape.now s.subchunk_shape.now) in
    let permutes = order_permutes s.order (grid_of c.args.planned.now.spec.shape.now s.subchunk_shape.now) in
    let stored_slices = rw (c.in_ok-sequence.ensures, c.requires.plan.grid) at c.in_ok-stored_slices.ensures.stored_slices in
    let room = rw c.requires.plan.grid at c.requires.plan.index.size in
    let e = c.in_err-index.field-0.0 in
    passed_on _ e _ c.from_residual-in_err-index.ensures.1
    (index_next inner index (shard_layout s index spec) (size_of c.args.planned.now.spec.data_type.now) c.args.array.now c.in_ok-stored_slices.stored_slices.bytes.items c.in_ok-stored_slices.stored_slices.slots.items order permutes stored_slices e kind counted
    (omega (arith, c.if-plan-len.false, c.len-len.ensures, c.in_ok-stored_slices.stored_slices.bytes.ok.0, room))
    (rw c.requires.plan.grid at c.in_err-index.ensures.refused))

pub returns-clause-written : goal.returns-clause-written
returns-clause-written g c =
    let s = c.args.sharding.now in
    let spec = spec_of c.args.planned.now.spec in
    let inner = g.I.ArrayToBytesCodecTraits in
    let outer = g.X.ArrayToBytesCodecTraits in
    let grid = grid_of c.args.planned.now.spec.shape.now s.subchunk_shape.now in
    let representation = (outer.meaning s.index_codec.codec.now (index_spec grid)).representation in
    let served = c.requires.serves.index_served in
    let bytes = c.in_ok-stored_slices.stored_slices.bytes.items in
    let slots = c.in_ok-stored_slices.stored_slices.slots.items in
    let room = rw c.requires.plan.grid at c.requires.plan.index.size in
    let small : fixed_size representation + length bytes < absent_number =
    omega (arith, c.if-plan-len.false, c.len-len.ensures, c.in_ok-stored_slices.stored_slices.bytes.ok.0, room) in
    let order = numbers_in_order s.order (grid_of c.args.planned.now.spec.shape.now s.subchunk_shape.now) in
    let permutes = order_permutes s.order (grid_of c.args.planned.now.spec.shape.now s.subchunk_shape.now) in
    let stored_slices = rw (c.in_ok-sequence.ensures, c.requires.plan.grid) at c.in_ok-stored_slices.ensures.stored_slices in
    let index : IsIndexOf (outer.meaning s.index_codec.codec.now (index_spec grid)).written (data_start s.index_codec.location (fixed_size representation)) slots c.in_ok-index.index.items =
    rw (c.deref.ensures.value, c.requires.plan.index.size, c.requires.plan.grid) at c.in_ok-index.ensures.index in
    let laws = g.met.X.ArrayToBytesCodecTraits g.world.𝓛 g.world.𝓜 g.world.𝓡 ((λ s x. x), (λ x. x), (λ x. x), λ x. x) in
    let sized = index_length (outer.meaning s.index_codec.codec.now (index_spec grid)).written representation grid (data_start s.index_codec.location (fixed_size representation)) slots c.in_ok-index.index.items
    (stored_slices.counted ∙ order_counted _ order permutes) served.fixed (λ x y array written. (laws.lawful s.index_codec.codec.now (index_spec grid)).bounded x y served.served array written) index in
    encoded_shard (inner.meaning s.inner.now (subchunk_spec s.subchunk_shape.now spec)).written (outer.meaning s.index_codec.codec.now (index_spec grid)).written s.subchunk_shape.now s.index_codec.location s.order (fixed_size representation) spec
    c.args.array.now.elements bytes c.in_ok-index.index.items c.in_ok-shard.shard.items slots stored_slices index sized small c.in_ok-shard.ensures.bytes
