-- The bytes that were there stay, and behind them the subchunks so far stand one after the other.
use Rattle.std.proofs.Common.{◌≡◌, length, take, drop}
use Rattle.sharding_subchunks.specs.steps.Inner.{spec_of_subchunks}
use Rattle.sharding_format.specs.Laying.{IsStoredInOrder}
use Rattle.sharding_subchunks.proofs.subchunks.Subchunks.lay_out_each.Given as goal

abbrev pub invariant-loop-position : goal.invariant-loop-position
invariant-loop-position g l =
    let old = l.fn.bytes.items in
    (take (length old) l.bytes.items ≡ old)
    × IsStoredInOrder (g.I.ArrayToBytesCodecTraits.meaning l.self.codec.now (spec_of_subchunks l.self)).written l.self.fill_value.now l.cut.shape.now l.self.shape.now l.cut.array.now.elements
    (drop (length old) l.bytes.items) l.slots.items l.sequence l.position
