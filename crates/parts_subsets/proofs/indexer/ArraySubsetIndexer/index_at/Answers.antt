use Rattle.std.proofs.Common.{refl}
use Rattle.parts_row_major.proofs.SubsetLaws.{length-points_of, point_of-points_of}
use Rattle.parts_subsets.proofs.indexer.ArraySubsetIndexer.index_at.Goals as goal

pub number_along_subset-requires-clause-at_point : goal.number_along_subset-requires-clause-at_point
number_along_subset-requires-clause-at_point c =
    rw (c.shape.ensures.value, ← length-points_of c.args.self.now) c.requires.position

pub returns : goal.returns
returns c =
    let below = rw (length-points_of c.args.self.now) at c.requires.position in
    rw (c.number_along_subset.ensures, c.start.ensures.value, c.shape.ensures.value, point_of-points_of c.args.self.now c.args.i below) refl
