use Rattle.std.proofs.Common.{rules, ◌≡◌, ◌<◌, ◌-◌, length, get_or, set, length-append, sym, ap, arith}
use Rattle.parts_row_major.specs.Numbering.{count_of}
use Rattle.sharding_format.specs.Laying.{placed_slot}
use Rattle.sharding_format.specs.WriteOrderLaws.{order_counted, order_below}
use Rattle.sharding_subchunks.specs.steps.Inner.{spec_of_subchunks}
use Rattle.sharding_subchunks.proofs.AppendLemmas.{stay_themselves, none_after, stay_before, one_more_after}
use Rattle.sharding_subchunks.proofs.subchunks.Subchunks.lay_out_each.Goals as goal

pub loop-position-init : goal.loop-position-init
loop-position-init g c =
    let a = c.args in
    let s = a.self.now in (
      stay_themselves a.bytes.now.items,
      none_after (g.I.ArrayToBytesCodecTraits.meaning s.codec.now (spec_of_subchunks s)).written s.fill_value.now a.cut.now.shape.now s.shape.now a.cut.now.array.now.elements a.bytes.now.items c.in_ok-slots.slots.items a.sequence.now (count_of a.cut.now.grid.now)
          c.requires.order (rw (c.len-many.ensures, order_counted (count_of a.cut.now.grid.now) a.sequence.now c.requires.order) at c.in_ok-slots.ensures),
    )

pub store_number-requires-clause-below : goal.store_number-requires-clause-below
store_number-requires-clause-below g c =
    let counted = order_counted (count_of c.args.cut.now.grid.now) c.args.sequence.now c.requires.order in
    omega (arith, c.number_at-number.ensures, order_below (count_of c.args.cut.now.grid.now) c.args.sequence.now c.loop-position.position c.requires.order (omega (arith, c.loop-position-test.true, c.len-many.ensures, counted)))

pub index_mut-requires : goal.index_mut-requires
index_mut-requires g c =
    let counted = order_counted (count_of c.args.cut.now.grid.now) c.args.sequence.now c.requires.order in
    omega (
      arith,
      c.number_at-number.ensures,
      c.loop-position.slots.ok.0,
      c.loop-position.invariant.1.counted,
      counted,
      order_below (count_of c.args.cut.now.grid.now) c.args.sequence.now c.loop-position.position c.requires.order (omega (arith, c.loop-position-test.true, c.len-many.ensures, counted)),
    )

pub loop-position-preserved : goal.loop-position-preserved
loop-position-preserved g c =
    let a = c.args in
    let s = a.self.now in
    let l = c.loop-position in
    let n = count_of a.cut.now.grid.now in
    let old = a.bytes.now.items in
    let room = c.room_for_next.new.bytes in
    let all = c.store_number.new.bytes in
    let stored = c.in_ok-slot.ensures.stored in
    let counted = order_counted n a.sequence.now c.requires.order in
    let below : l.position < n = omega (arith, c.loop-position-test.true, c.len-many.ensures, counted) in
    let number : get_or a.sequence.now l.position 0 ≡ c.number_at-number.result = sym c.number_at-number.ensures in
    let appended = rw c.room_for_next.ensures at stored.appended in
    let from : c.len-from.result - c.len-start.result ≡ length l.bytes.items - length old =
    omega (arith, c.len-from.ensures, room.ok.0, ap length c.room_for_next.ensures, c.len-start.ensures, a.bytes.now.ok.0) in
    let size : c.len.result - c.len-from.result ≡ length stored.slice =
    omega (arith, c.len.ensures, all.ok.0, c.len-from.ensures, room.ok.0, length-append room.items stored.slice, ap length stored.appended) in
    let present : c.ne.result ≡ stored.present = search rules in
    let placed : c.placed.result ≡ placed_slot stored.present (length l.bytes.items - length old) (length stored.slice) = rw (present, from, size) at c.placed.ensures in (
      stay_before old l.bytes.items stored.slice all.items l.invariant.0 appended,
      one_more_after (g.I.ArrayToBytesCodecTraits.meaning s.codec.now (spec_of_subchunks s)).written s.fill_value.now a.cut.now.shape.now s.shape.now a.cut.now.array.now.elements
          old l.bytes.items stored.slice all.items l.slots.items (set l.slots.items c.number_at-number.result c.placed.result) a.sequence.now n l.position c.number_at-number.result stored.present
          c.requires.order below number l.invariant.0 l.invariant.1 stored.stored appended (ap (λ x. set l.slots.items c.number_at-number.result x) placed),
    )

pub returns-clause-stored_slices : goal.returns-clause-stored_slices
returns-clause-stored_slices g c =
    let a = c.args in
    let s = a.self.now in
    let l = c.loop-position in
    let end : l.position ≡ count_of a.cut.now.grid.now = omega (arith, c.loop-position-test.false, l.auto.position-end, c.len-many.ensures, order_counted (count_of a.cut.now.grid.now) a.sequence.now c.requires.order) in
    rw end at l.invariant.1
