use Rattle.std.proofs.Common.{◌≡◌, ◌*◌, ◌<◌, ◌++◌, ◌∙◌, length, ap, sym, below_more, arith}
use Rattle.parts_subsets.proofs.GridLaws.{count-grid}
use Rattle.parts_row_major.specs.Numbering.{count_of}
use Rattle.parts_subsets.specs.Grid.{grid_of}
use Rattle.sharding_format.specs.Index.{slot_at}
use Rattle.sharding_subchunks.specs.steps.DecodedRows.{IsPlainSlot, bytes_of_run}
use Rattle.sharding_subchunks.proofs.DecodedRowLemmas.{rows_fit, plain_more}
use Rattle.sharding_subchunks.proofs.plain_decoded.rows.Goals as goal

pub overflow_mul-subchunks : goal.overflow_mul-subchunks
overflow_mul-subchunks c =
    let shape = c.args._shape.now in
    let sub = c.args._sub.now in
    let subchunk = c.args.subchunk.now in
    let many = count_of (grid_of shape sub) in
    let counted : c.subchunks.result ≡ many = omega (arith, c.requires.counted) in
    omega (arith, rows_fit c.subchunks.result many (count_of sub) (length subchunk.fill.now) (count_of shape) subchunk.size counted (count-grid shape sub c.requires.divides) c.requires.size c.requires.fits)

pub loop-k-preserved : goal.loop-k-preserved
loop-k-preserved c =
    let a = c.args in
    let shape = a._shape.now in
    let sub = a._sub.now in
    let subchunk = a.subchunk.now in
    let shard = a.shard.now in
    let numbers = a.index.now.numbers.items in
    let k = c.loop-k.k in
    let so_far = c.loop-k.invariant in
    let added = c.in_ok-added.ensures in
    let slot : c.slot-slot.result ≡ slot_at (length shard) numbers k = rw c.requires.len at c.slot-slot.ensures.slot in
    let lt : k < count_of (grid_of shape sub) = omega (arith, c.requires.counted) in
    let plain = rw (c.in-Some.is, slot) at added.plain in
    record {
      within = rw c.in-Some.is at added.run;
      plain = below_more (λ j. IsPlainSlot (length shard) subchunk.size (slot_at (length shard) numbers j)) k so_far.plain plain;
      made = added.blank;
      stored_slices = plain_more subchunk.fill.now shape sub shard numbers subchunk.size k
          (c.loop-k.bytes.items ++ bytes_of_run shard c.loop-k.run) (c.add_slot.new.bytes.items ++ bytes_of_run shard c.in-Some.more)
          c.requires.divides (c.requires.runs k) lt c.requires.size plain so_far.stored_slices
          (rw (c.in-Some.is, slot, c.requires.positions) at added.added);
    }

pub returns : goal.returns
returns c =
    let shape = c.args._shape.now in
    let sub = c.args._sub.now in
    let counted : c.loop-k.k ≡ count_of (grid_of shape sub) = omega (arith, c.requires.counted) in
    let end : c.loop-k.k * count_of sub ≡ count_of shape = ap (λ k. k * count_of sub) counted ∙ sym (count-grid shape sub c.requires.divides) in
    record {
      plain = λ k lt. c.loop-k.invariant.plain k (omega (arith, counted));
      bytes_are = c.in_ok-push_run.ensures ∙ rw end at c.loop-k.invariant.stored_slices;
    }
