use Rattle.std.proofs.Common.{refl}
use Rattle.sharding_plans.proofs.RoundingLemmas.{lies_in_whole}
use Rattle.sharding_plans.proofs.chunks.PlannedArray.touched_chunks.Goals as goal

pub touched_subchunks-requires-clause-inside : goal.touched_subchunks-requires-clause-inside
touched_subchunks-requires-clause-inside c =
    let s = c.args.self.now in
    let tested = rw (c.if-not-lies_in.false, c.deref.ensures.value) at c.lies_in.ensures in
    lies_in_whole c.args.subset.now s.shape.items s.chunks.subchunk_shape s.chunks.shape s.whole s.axes s.positive (tested.0 refl)
