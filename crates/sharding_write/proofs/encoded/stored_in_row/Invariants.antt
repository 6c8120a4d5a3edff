-- The subchunks so far stand one after the other.
use Rattle.sharding_subchunks.specs.steps.Inner.{spec_of_subchunks}
use Rattle.sharding_write.specs.Writing.{AreStoredInRow, array_at}
use Rattle.sharding_write.proofs.encoded.stored_in_row.Given as goal

abbrev pub invariant-loop-j : goal.invariant-loop-j
invariant-loop-j g l =
    AreStoredInRow (g.I.ArrayToBytesCodecTraits.meaning l.subchunks.codec.now (spec_of_subchunks l.subchunks)).written l.subchunks.fill_value.now (λ i. (array_at l.arrays i).elements) l.bytes.items l.slots.items l.j
