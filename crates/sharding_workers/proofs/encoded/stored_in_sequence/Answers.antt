use Rattle.std.proofs.Common.{◌≡◌, ◌∙◌, length, get_or, set, sym, ap, subst, arith}
use Rattle.std.proofs.lemmas.List.{length-replicate}
use Rattle.parts_subsets.specs.Grid.{subchunk}
use Rattle.sharding_format.specs.Encoding.{IsStored}
use Rattle.sharding_format.specs.WriteOrderLaws.{order_counted, order_below}
use Rattle.sharding_format.specs.declared.slot.Slot.TheVariants.{Absent}
use Rattle.sharding_format.proofs.LayingLemmas.{none_stored_yet, one_more_stored}
use Rattle.sharding_subchunks.specs.steps.Inner.{inner_meaning}
use Rattle.sharding_subchunks.specs.declared.encoded.Stored.{Stored}
use Rattle.sharding_workers.proofs.encoded.stored_in_sequence.Goals as goal

pub loop-position-init : goal.loop-position-init
loop-position-init g c =
    let a = c.args in
    let s = a._subchunks.now in
    none_stored_yet (inner_meaning g.I.ArrayToBytesCodecTraits.meaning s).written s.fill_value.now a._cut.now.shape.now s.shape.now a._cut.now.array.now.elements c.new-bytes.result.items c.in_ok-slots.slots.items a.sequence.now
    (ap length c.in_ok-slots.ensures ∙ length-replicate _ Absent ∙ sym (order_counted (length a.stored.now) a.sequence.now c.requires.order)) c.new-bytes.ensures.items

pub offset_bounds-stored-number : goal.offset_bounds-stored-number
offset_bounds-stored-number g c =
    omega (arith, c.number_at-number.ensures, order_below (length c.args.stored.now) c.args.sequence.now c.loop-position.position c.requires.order c.loop-position-test.true)

pub bounds-stored-number : goal.bounds-stored-number
bounds-stored-number g c =
    omega (arith, c.number_at-number.ensures, order_below (length c.args.stored.now) c.args.sequence.now c.loop-position.position c.requires.order c.loop-position-test.true)

pub index_mut-requires : goal.index_mut-requires
index_mut-requires g c =
    omega (
      arith,
      c.number_at-number.ensures,
      c.loop-position.slots.ok.0,
      c.loop-position.invariant.counted,
      order_counted (length c.args.stored.now) c.args.sequence.now c.requires.order,
      order_below (length c.args.stored.now) c.args.sequence.now c.loop-position.position c.requires.order c.loop-position-test.true,
    )

pub loop-position-preserved : goal.loop-position-preserved
loop-position-preserved g c =
    let a = c.args in
    let s = a._subchunks.now in
    let l = c.loop-position in
    let written = (inner_meaning g.I.ArrayToBytesCodecTraits.meaning s).written in
    let fill = s.fill_value.now in
    let n = length a.stored.now in
    let number : get_or a.sequence.now l.position 0 ≡ c.number_at-number.result = sym c.number_at-number.ensures in
    let k = c.number_at-number.result in
    let part = c.index-stored-number.result in
    let e = subchunk a._cut.now.shape.now s.shape.now a._cut.now.array.now.elements k in
    let k_below = rw number at (order_below n a.sequence.now l.position c.requires.order c.loop-position-test.true) in
    let stored : IsStored written fill e part.present part.bytes.items =
    subst (λ (p : Stored). IsStored written fill e p.present p.bytes.items) (sym c.index-stored-number.is) (c.requires.stored k part k_below) in
    one_more_stored written fill a._cut.now.shape.now s.shape.now a._cut.now.array.now.elements l.bytes.items part.bytes.items c.extend_from_slice.new.self.items l.slots.items
    (set l.slots.items k c.placed-slot.result) a.sequence.now n l.position k part.present c.requires.order c.loop-position-test.true number l.invariant stored
    (rw c.deref.ensures.value at c.in_ok-extend_from_slice.ensures.items)
    (ap (λ x. set l.slots.items k x) (rw (c.len.ensures, c.len-in-loop-position.ensures, l.bytes.ok.0, part.bytes.ok.0) at c.placed-slot.ensures))
