use Rattle.std.proofs.Common.{◌≡◌, ◌<◌, length, arith}
use Rattle.sharding_format.specs.Index.{absent_number}
use Rattle.storage_handles.specs.Writes.{bytes_of}
use Rattle.sharding_index.specs.Indexes.{index_meaning}
use Rattle.sharding_write.proofs.PutLemmas.{put_after_all}
use Rattle.sharding_write.proofs.writing.Writing.put_after.Goals as goal

pub returns-clause-put : goal.returns-clause-put
returns-clause-put g c = λ old enough goes.
    let s = c.args.self.now in
    let index = index_meaning g.X.ArrayToBytesCodecTraits.meaning s.index_codec.codec.now s.plan.now.grid in
    let written = rw c.deref-2.ensures.value at c.in_ok-index.ensures.written in
    let entries = rw c.deref.ensures.value at c.with_entries-numbers.ensures.entries in
    let total : c.len-total.result ≡ length c.args.stored_slices.bytes.items = omega (arith, c.len-total.ensures, c.args.stored_slices.bytes.ok.0) in
    let small : c.args.len < absent_number = omega (arith, c.requires.small) in
    rw (c.index_offset-index_offset.ensures, total)
    (put_after_all index.written s.index_codec.location s.plan.now.size c.args.touched.now c.args.stored_slices.slots.items c.args.stored_slices.bytes.items c.args.numbers.items c.with_entries-numbers.result.items
    c.in_ok-index.index.items (bytes_of old) c.args.write_offset c.args.len c.in_ok-index.ensures.size written c.with_entries-numbers.ensures.below entries enough goes small)
