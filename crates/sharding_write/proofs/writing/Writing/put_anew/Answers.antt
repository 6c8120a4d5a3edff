use Rattle.std.proofs.Common.{◌≡◌, ◌+◌, ◌∙◌, ◌<◌, length, arith}
use Rattle.sharding_format.specs.Index.{absent_number}
use Rattle.sharding_index.specs.Indexes.{index_meaning}
use Rattle.sharding_write.proofs.PutLemmas.{anew_length, put_anew}
use Rattle.sharding_write.proofs.writing.Writing.put_anew.Goals as goal

pub returns-clause-put : goal.returns-clause-put
returns-clause-put g c = λ old.
    let s = c.args.self.now in
    let location = s.index_codec.location in
    let size = s.plan.now.size in
    let index = index_meaning g.X.ArrayToBytesCodecTraits.meaning s.index_codec.codec.now s.plan.now.grid in
    let slices = c.args.stored_slices.bytes.items in
    let written = rw c.deref-2.ensures.value at c.in_ok-index.ensures.written in
    let entries = rw (c.deref.ensures.value, c.fresh_offset-start.ensures) at c.with_entries-numbers.ensures.entries in
    let total : c.len-total.result ≡ length slices = omega (arith, c.len-total.ensures, c.args.stored_slices.bytes.ok.0) in
    let small : size + length slices < absent_number = omega (arith, c.if-self-total.false, total) in
    rw c.in_ok-shard.ensures.bytes (
      put_anew index.written location size c.args.touched.now c.args.stored_slices.slots.items slices c.args.numbers.items c.with_entries-numbers.result.items c.in_ok-index.index.items
          c.in_ok-index.ensures.size written c.with_entries-numbers.ensures.below entries small,
      anew_length location c.in_ok-index.index.items slices ∙ omega (arith, c.in_ok-index.ensures.size, total),
    )
