use Rattle.std.proofs.Common.{ℕ, arith}
use borrow.Author.Count.{below_more}
use Rattle.sharding_format.specs.Index.{slot_at}
use Rattle.sharding_format.specs.Encoding.{slot_size}
use Rattle.sharding_format.specs.Compacting.{IsGood}
use Rattle.sharding_format.proofs.LayingLemmas.{sum_more}
use Rattle.sharding_layout.proofs.packing.compact_size.Goals as goal

pub loop-k-preserved : goal.loop-k-preserved
loop-k-preserved c =
    let index = c.args.index.now in
    let slot = slot_at index.len index.numbers.items in
    let more = sum_more (λ (j : ℕ). slot_size (slot j)) c.loop-k.k in
    record {
      total = omega (arith, more, c.loop-k.invariant.total, c.in_ok-size.ensures.size, c.saturating_add-total.ensures);
      good = below_more (λ (j : ℕ). IsGood (slot j)) c.loop-k.k c.loop-k.invariant.good c.in_ok-size.ensures.good;
    }
