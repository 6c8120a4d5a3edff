use Rattle.sharding_plans.proofs.RoundingLemmas.{lies_in_whole}
use Rattle.sharding_plans.proofs.chunks.PlannedArray.part_of_chunk.Goals as goal

pub subchunk_overlap-requires-clause-inside : goal.subchunk_overlap-requires-clause-inside
subchunk_overlap-requires-clause-inside c =
    let s = c.args.self.now in
    lies_in_whole c.args.subset.now s.shape.items s.chunks.subchunk_shape s.chunks.shape s.whole s.axes s.positive c.requires.inside
