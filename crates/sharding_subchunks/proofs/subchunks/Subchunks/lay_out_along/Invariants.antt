-- The bytes that were there stay, and behind them the rows so far stand one after the other.
use Rattle.std.proofs.Common.{◌≡◌, length, take, drop}
use Rattle.sharding_format.specs.Laying.{IsStoredInOrder}
use Rattle.sharding_subchunks.specs.steps.Inner.{inner_meaning}
use Rattle.sharding_subchunks.proofs.subchunks.Subchunks.lay_out_along.Given as goal

abbrev pub invariant-loop-position : goal.invariant-loop-position
invariant-loop-position g l =
    let old = l.fn.slices.items in
    (take (length old) l.slices.items ≡ old)
    × IsStoredInOrder (inner_meaning g.I.ArrayToBytesCodecTraits.meaning l.self).written l.self.fill_value.now l._cut.shape.now l.self.shape.now l._cut.array.now.elements
    (drop (length old) l.slices.items) l.slots.items l.sequence l.position
