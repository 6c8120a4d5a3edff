use Rattle.std.proofs.Common.{◌≡◌, ◌<◌, ◌+◌, arith, rules, length, drop, length-drop, sym, ◌∙◌, inr}
use Rattle.parts_row_major.specs.Numbering.{count_of}
use Rattle.parts_subsets.specs.Grid.{grid_of}
use Rattle.parts_arrays.specs.Types.{size_of}
use Rattle.codec_traits.specs.RefusalLaws.{passed_on}
use Rattle.sharding_format.specs.Index.{absent_number, index_spec, data_start}
use Rattle.sharding_format.specs.Laying.{IsIndexOf}
use Rattle.sharding_format.specs.Serves.{subchunk_spec, fixed_size, layout}
use Rattle.sharding_format.specs.WriteOrder.{numbers_in_order}
use Rattle.sharding_format.specs.WriteOrderLaws.{order_permutes, order_counted}
use Rattle.sharding_format.proofs.EncodingLemmas.{encoded_shard, room_stored}
use Rattle.sharding_format.proofs.EncodeRefusals.{store_next, total_next, index_next, index_length}
use Rattle.sharding_subchunks.proofs.AppendLemmas.{old_within}
use Rattle.sharding_index.specs.steps.Plans.{spec_of}
use Rattle.sharding_engine.proofs.RoomLemmas.{stay_in_front, room_of_index}
use Rattle.sharding_engine.proofs.sharding.Sharding.encode_planned.Goals as goal

pub store_all_after-requires-clause-order : goal.store_all_after-requires-clause-order
store_all_after-requires-clause-order g c = rw c.in_ok-sequence.ensures (order_permutes c.args.self.now.order c.args.planned.now.plan.now.index.grid)

pub encode-requires-clause-counted : goal.encode-requires-clause-counted
encode-requires-clause-counted g c =
    let s = c.args.self.now in
    let grid = grid_of c.args.planned.now.spec.shape.now s.subchunk_shape.now in
    let stored_slices = rw (c.in_ok-sequence.ensures, c.requires.plan.grid) at c.in_ok-slots.ensures.stored_slices in
    rw (c.deref.ensures.value, c.requires.plan.grid) (stored_slices.counted ∙ order_counted (count_of grid) (numbers_in_order s.order grid) (order_permutes s.order grid))

pub encode-requires-clause-room : goal.encode-requires-clause-room
encode-requires-clause-room g c =
    let s = c.args.self.now in
    let spec = spec_of c.args.planned.now.spec in
    let inner = g.I.ArrayToBytesCodecTraits.meaning s.inner.now (subchunk_spec s.subchunk_shape.now spec) in
    let grid = grid_of c.args.planned.now.spec.shape.now s.subchunk_shape.now in
    let stored_slices = rw (c.in_ok-sequence.ensures, c.requires.plan.grid) at c.in_ok-slots.ensures.stored_slices in
    let room = c.make_room.new.bytes in
    let all = c.store_all_after.new.bytes in
    rw c.deref.ensures.value (room_stored inner.written spec.fill spec.shape s.subchunk_shape.now c.args.array.now.elements (drop (length room.items) all.items) c.in_ok-slots.slots.items
    (numbers_in_order s.order grid) (count_of grid) c.args.planned.now.plan.now.index.size s.index_codec.location (order_permutes s.order grid) stored_slices
    (omega (arith, c.if-plan-len.false, c.len-2.ensures, all.ok.0, c.len-from.ensures, room.ok.0, length-drop (length room.items) all.items)))

pub returns-in_err-slots-clause-stay : goal.returns-in_err-slots-clause-stay
returns-in_err-slots-clause-stay g c =
    stay_in_front c.args.shard.now.items c.make_room.new.bytes.items _ c.store_all_after.new.bytes.items c.in_ok-make_room.ensures.appended c.store_all_after.ensures.stay

pub returns-in_err-slots-clause-refused : goal.returns-in_err-slots-clause-refused
returns-in_err-slots-clause-refused g c =
    let s = c.args.self.now in
    let spec = spec_of c.args.planned.now.spec in
    let inner = g.I.ArrayToBytesCodecTraits.meaning s.inner.now (subchunk_spec s.subchunk_shape.now spec) in
    let index = g.X.ArrayToBytesCodecTraits.meaning s.index_codec.codec.now (index_spec (grid_of spec.shape s.subchunk_shape.now)) in
    let kind : c.args.array.now.kind ≡ size_of c.args.planned.now.spec.data_type.now = search rules in
    let counted : length c.args.array.now.elements ≡ count_of c.args.planned.now.spec.shape.now = omega (arith, c.requires.plan.cells) in
    let e = c.in_err-slots.field-0.0 in
    passed_on _ e _ c.from_residual-in_err-slots.ensures.1 (store_next inner index (layout s.subchunk_shape.now s.index_codec.location s.order index.representation spec) (size_of c.args.planned.now.spec.data_type.now) c.args.array.now e kind counted (rw c.requires.plan.grid at c.in_err-slots.ensures.refused))

pub returns-then-plan-len-clause-refused : goal.returns-then-plan-len-clause-refused
returns-then-plan-len-clause-refused g c =
    let s = c.args.self.now in
    let spec = spec_of c.args.planned.now.spec in
    let inner = g.I.ArrayToBytesCodecTraits.meaning s.inner.now (subchunk_spec s.subchunk_shape.now spec) in
    let index = g.X.ArrayToBytesCodecTraits.meaning s.index_codec.codec.now (index_spec (grid_of spec.shape s.subchunk_shape.now)) in
    let kind : c.args.array.now.kind ≡ size_of c.args.planned.now.spec.data_type.now = search rules in
    let counted : length c.args.array.now.elements ≡ count_of c.args.planned.now.spec.shape.now = omega (arith, c.requires.plan.cells) in
    let order = numbers_in_order s.order (grid_of c.args.planned.now.spec.shape.now s.subchunk_shape.now) in
    let permutes = order_permutes s.order (grid_of c.args.planned.now.spec.shape.now s.subchunk_shape.now) in
    let stored_slices = rw (c.in_ok-sequence.ensures, c.requires.plan.grid) at c.in_ok-slots.ensures.stored_slices in
    let size = rw c.requires.plan.grid at c.requires.plan.index.size in
    let room = c.make_room.new.bytes in
    let all = c.store_all_after.new.bytes in
    inr (total_next inner index (layout s.subchunk_shape.now s.index_codec.location s.order index.representation spec) (size_of c.args.planned.now.spec.data_type.now) c.args.array.now (drop (length room.items) all.items) c.in_ok-slots.slots.items order permutes stored_slices kind counted
    (omega (arith, c.if-plan-len.true, c.len-2.ensures, all.ok.0, c.len-from.ensures, room.ok.0, length-drop (length room.items) all.items, size)))

pub returns-in_err-index-clause-stay : goal.returns-in_err-index-clause-stay
returns-in_err-index-clause-stay g c =
    stay_in_front c.args.shard.now.items c.make_room.new.bytes.items _ c.store_all_after.new.bytes.items c.in_ok-make_room.ensures.appended c.store_all_after.ensures.stay

pub returns-in_err-index-clause-refused : goal.returns-in_err-index-clause-refused
returns-in_err-index-clause-refused g c =
    let s = c.args.self.now in
    let spec = spec_of c.args.planned.now.spec in
    let inner = g.I.ArrayToBytesCodecTraits.meaning s.inner.now (subchunk_spec s.subchunk_shape.now spec) in
    let index = g.X.ArrayToBytesCodecTraits.meaning s.index_codec.codec.now (index_spec (grid_of spec.shape s.subchunk_shape.now)) in
    let kind : c.args.array.now.kind ≡ size_of c.args.planned.now.spec.data_type.now = search rules in
    let counted : length c.args.array.now.elements ≡ count_of c.args.planned.now.spec.shape.now = omega (arith, c.requires.plan.cells) in
    let order = numbers_in_order s.order (grid_of c.args.planned.now.spec.shape.now s.subchunk_shape.now) in
    let permutes = order_permutes s.order (grid_of c.args.planned.now.spec.shape.now s.subchunk_shape.now) in
    let stored_slices = rw (c.in_ok-sequence.ensures, c.requires.plan.grid) at c.in_ok-slots.ensures.stored_slices in
    let size = rw c.requires.plan.grid at c.requires.plan.index.size in
    let room = c.make_room.new.bytes in
    let all = c.store_all_after.new.bytes in
    let e = c.in_err-index.field-0.0 in
    passed_on _ e _ c.from_residual-in_err-index.ensures.1
    (index_next inner index (layout s.subchunk_shape.now s.index_codec.location s.order index.representation spec) (size_of c.args.planned.now.spec.data_type.now) c.args.array.now (drop (length room.items) all.items) c.in_ok-slots.slots.items order permutes stored_slices e kind counted
    (omega (arith, c.if-plan-len.false, c.len-2.ensures, all.ok.0, c.len-from.ensures, room.ok.0, length-drop (length room.items) all.items, size))
    (rw c.requires.plan.grid at c.in_err-index.ensures.refused))

pub put_index-requires : goal.put_index-requires
put_index-requires g c =
    let s = c.args.self.now in
    let outer = g.X.ArrayToBytesCodecTraits in
    let grid = grid_of c.args.planned.now.spec.shape.now s.subchunk_shape.now in
    let representation = (outer.meaning s.index_codec.codec.now (index_spec grid)).representation in
    let served = c.requires.serves.index_served in
    let order = numbers_in_order s.order (grid_of c.args.planned.now.spec.shape.now s.subchunk_shape.now) in
    let permutes = order_permutes s.order (grid_of c.args.planned.now.spec.shape.now s.subchunk_shape.now) in
    let stored_slices = rw (c.in_ok-sequence.ensures, c.requires.plan.grid) at c.in_ok-slots.ensures.stored_slices in
    let size = rw c.requires.plan.grid at c.requires.plan.index.size in
    let index : IsIndexOf (outer.meaning s.index_codec.codec.now (index_spec grid)).written (data_start s.index_codec.location (fixed_size representation)) c.in_ok-slots.slots.items c.in_ok-index.index.items =
    rw (c.deref.ensures.value, c.requires.plan.index.size, c.requires.plan.grid) at c.in_ok-index.ensures.index in
    let sized = index_length (outer.meaning s.index_codec.codec.now (index_spec grid)).written representation grid (data_start s.index_codec.location (fixed_size representation)) c.in_ok-slots.slots.items c.in_ok-index.index.items
    (stored_slices.counted ∙ order_counted _ order permutes) served.fixed (λ x y array written. (g.met.X.ArrayToBytesCodecTraits.lawful s.index_codec.codec.now (index_spec grid)).bounded x y served.served array written) index in
    let old = c.args.shard.now in
    let room = c.make_room.new.bytes.items in
    let all = c.store_all_after.new.bytes.items in
    let fits = room_of_index s.index_codec.location c.args.planned.now.plan.now.index.size old.items room c.in_ok-index.index.items c.in_ok-make_room.ensures.appended (sized ∙ sym size) in
    record { room = rw c.deref-2.ensures.value (omega (arith, c.len-start.ensures, old.ok.0, fits, old_within room all c.store_all_after.ensures.stay)) }

pub returns-in_err-put_index-clause-stay : goal.returns-in_err-put_index-clause-stay
returns-in_err-put_index-clause-stay g c =
    let start : c.len-start.result ≡ length c.args.shard.now.items = omega (arith, c.len-start.ensures, c.args.shard.now.ok.0) in
    (rw start at c.put_index.ensures.stay)
    ∙ stay_in_front c.args.shard.now.items c.make_room.new.bytes.items _ c.store_all_after.new.bytes.items c.in_ok-make_room.ensures.appended c.store_all_after.ensures.stay

pub returns-clause-stay : goal.returns-clause-stay
returns-clause-stay g c =
    let start : c.len-start.result ≡ length c.args.shard.now.items = omega (arith, c.len-start.ensures, c.args.shard.now.ok.0) in
    (rw start at c.put_index.ensures.stay)
    ∙ stay_in_front c.args.shard.now.items c.make_room.new.bytes.items _ c.store_all_after.new.bytes.items c.in_ok-make_room.ensures.appended c.store_all_after.ensures.stay

pub returns-clause-written : goal.returns-clause-written
returns-clause-written g c =
    let s = c.args.self.now in
    let spec = spec_of c.args.planned.now.spec in
    let inner = g.I.ArrayToBytesCodecTraits in
    let outer = g.X.ArrayToBytesCodecTraits in
    let grid = grid_of c.args.planned.now.spec.shape.now s.subchunk_shape.now in
    let representation = (outer.meaning s.index_codec.codec.now (index_spec grid)).representation in
    let served = c.requires.serves.index_served in
    let old = c.args.shard.now in
    let room = c.make_room.new.bytes in
    let all = c.store_all_after.new.bytes in
    let bytes = drop (length room.items) all.items in
    let slots = c.in_ok-slots.slots.items in
    let size = rw c.requires.plan.grid at c.requires.plan.index.size in
    let small : fixed_size representation + length bytes < absent_number =
    omega (arith, c.if-plan-len.false, c.len-2.ensures, all.ok.0, c.len-from.ensures, room.ok.0, length-drop (length room.items) all.items, size) in
    let order = numbers_in_order s.order (grid_of c.args.planned.now.spec.shape.now s.subchunk_shape.now) in
    let permutes = order_permutes s.order (grid_of c.args.planned.now.spec.shape.now s.subchunk_shape.now) in
    let stored_slices = rw (c.in_ok-sequence.ensures, c.requires.plan.grid) at c.in_ok-slots.ensures.stored_slices in
    let index : IsIndexOf (outer.meaning s.index_codec.codec.now (index_spec grid)).written (data_start s.index_codec.location (fixed_size representation)) slots c.in_ok-index.index.items =
    rw (c.deref.ensures.value, c.requires.plan.index.size, c.requires.plan.grid) at c.in_ok-index.ensures.index in
    let sized = index_length (outer.meaning s.index_codec.codec.now (index_spec grid)).written representation grid (data_start s.index_codec.location (fixed_size representation)) slots c.in_ok-index.index.items
    (stored_slices.counted ∙ order_counted _ order permutes) served.fixed (λ x y array written. (g.met.X.ArrayToBytesCodecTraits.lawful s.index_codec.codec.now (index_spec grid)).bounded x y served.served array written) index in
    let start : c.len-start.result ≡ length old.items = omega (arith, c.len-start.ensures, old.ok.0) in
    let fits = room_of_index s.index_codec.location c.args.planned.now.plan.now.index.size old.items room.items c.in_ok-index.index.items c.in_ok-make_room.ensures.appended (sized ∙ sym size) in
    encoded_shard (inner.meaning s.inner.now (subchunk_spec s.subchunk_shape.now spec)).written (outer.meaning s.index_codec.codec.now (index_spec grid)).written s.subchunk_shape.now s.index_codec.location s.order (fixed_size representation) spec
    c.args.array.now.elements bytes c.in_ok-index.index.items (drop (length old.items) c.put_index.new.bytes.items) slots stored_slices index sized small
    (rw (c.deref-2.ensures.value, start, fits) at c.in_ok-put_index.ensures.whole)
