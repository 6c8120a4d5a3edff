-- The bytes that were there stay, and behind them the rows so far are laid out, of which the last are still to be copied.
use Rattle.std.proofs.Common.{◌≡◌, length, take, drop}
use Rattle.sharding_subchunks.specs.steps.Inner.{inner_meaning}
use Rattle.sharding_subchunks.proofs.PlainRowLemmas.{AreRowsStored}
use Rattle.sharding_subchunks.proofs.subchunks.Subchunks.lay_out_bytes.Given as goal

abbrev pub invariant-loop-k : goal.invariant-loop-k
invariant-loop-k g l =
    let old = l.fn.slices.items in
    (take (length old) l.slices.items ≡ old)
    × AreRowsStored (inner_meaning g.I.ArrayToBytesCodecTraits.meaning l.self).written l.self.fill_value.now l._cut.shape.now l.self.shape.now l._cut.array.now.elements l.bytes l.size
    (drop (length old) l.slices.items) l.slots.items l.copied l.k
