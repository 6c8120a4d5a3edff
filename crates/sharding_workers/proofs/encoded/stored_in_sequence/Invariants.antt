-- The subchunks so far stand one after the other.
use Rattle.sharding_format.specs.Laying.{IsStoredInOrder}
use Rattle.sharding_subchunks.specs.steps.Inner.{inner_meaning}
use Rattle.sharding_workers.proofs.encoded.stored_in_sequence.Given as goal

abbrev pub invariant-loop-position : goal.invariant-loop-position
invariant-loop-position g l =
    IsStoredInOrder (inner_meaning g.I.ArrayToBytesCodecTraits.meaning l._subchunks).written l._subchunks.fill_value.now l._cut.shape.now l._subchunks.shape.now l._cut.array.now.elements
    l.bytes.items l.slots.items l.sequence l.position
