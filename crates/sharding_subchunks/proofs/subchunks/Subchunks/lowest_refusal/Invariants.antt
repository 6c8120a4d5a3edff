-- The subchunks so far have parts.
use Rattle.std.proofs.Common.{◌<◌, ℕ}
use Rattle.parts_subsets.specs.Grid.{subchunk}
use Rattle.sharding_format.specs.EncodeRefusals.{HasPart}
use Rattle.sharding_subchunks.specs.steps.Inner.{spec_of_subchunks}
use Rattle.sharding_subchunks.proofs.subchunks.Subchunks.lowest_refusal.Given as goal

abbrev pub invariant-loop-lower : goal.invariant-loop-lower
invariant-loop-lower g l = (j : ℕ) → j < l.lower
    → HasPart (g.I.ArrayToBytesCodecTraits.meaning l.self.codec.now (spec_of_subchunks l.self)).written l.self.fill_value.now (subchunk l.cut.shape.now l.self.shape.now l.cut.array.now.elements j)
