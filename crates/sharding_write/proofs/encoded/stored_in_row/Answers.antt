use Rattle.std.proofs.Common.{◌<◌, length, arith}
use Rattle.codec_traits.specs.RefusalLaws.{passed_on}
use Rattle.sharding_subchunks.specs.steps.Inner.{inner_meaning}
use Rattle.sharding_write.specs.Writing.{array_at}
use Rattle.sharding_write.proofs.ChangedLemmas.{array_here}
use Rattle.sharding_write.proofs.StoredInRowLemmas.{one_more, one_refused}
use Rattle.sharding_write.proofs.encoded.stored_in_row.Goals as goal

pub store_after-requires-clause-kind : goal.store_after-requires-clause-kind
store_after-requires-clause-kind g c =
    let below : c.loop-j.j < length c.args.arrays.now = omega arith in
    rw (array_here c.args.arrays.now c.loop-j.j c.index-arrays-j.result below c.index-arrays-j.is) (c.requires.arrays c.loop-j.j below).0

pub store_after-requires-clause-array : goal.store_after-requires-clause-array
store_after-requires-clause-array g c =
    let below : c.loop-j.j < length c.args.arrays.now = omega arith in
    rw (array_here c.args.arrays.now c.loop-j.j c.index-arrays-j.result below c.index-arrays-j.is) (c.requires.arrays c.loop-j.j below).1

pub loop-j-preserved : goal.loop-j-preserved
loop-j-preserved g c =
    let s = c.args.subchunks.now in
    let here = array_here c.args.arrays.now c.loop-j.j c.index-arrays-j.result (omega arith) c.index-arrays-j.is in
    let stored = c.in_ok-slot.ensures.stored in
    one_more (inner_meaning g.I.ArrayToBytesCodecTraits.meaning s).written s.fill_value.now (λ i. (array_at c.args.arrays.now i).elements)
    c.loop-j.bytes.items stored.slice c.store_after.new.slices.items c.loop-j.slots.items c.push.new.self.items c.loop-j.j stored.present
    c.loop-j.invariant (rw here at stored.stored) stored.appended (rw stored.placed at c.in_ok-push.ensures.items)

pub returns-in_err-slot-clause-refused : goal.returns-in_err-slot-clause-refused
returns-in_err-slot-clause-refused g c =
    let s = c.args.subchunks.now in
    let below : c.loop-j.j < length c.args.arrays.now = omega arith in
    let here = array_here c.args.arrays.now c.loop-j.j c.index-arrays-j.result below c.index-arrays-j.is in
    let e = c.in_err-slot.field-0.0 in
    passed_on _ e _ c.from_residual-in_err-slot.ensures.1
    (one_refused (inner_meaning g.I.ArrayToBytesCodecTraits.meaning s) s.fill_value.now (λ i. (array_at c.args.arrays.now i).elements) c.loop-j.bytes.items c.loop-j.slots.items
    (length c.args.arrays.now) c.loop-j.j e below c.loop-j.invariant (rw here at c.in_err-slot.ensures.refused))
