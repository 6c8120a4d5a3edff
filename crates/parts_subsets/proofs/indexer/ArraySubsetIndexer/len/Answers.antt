use Rattle.parts_row_major.proofs.SubsetLaws.{length-points_of}
use Rattle.parts_subsets.proofs.indexer.ArraySubsetIndexer.len.Goals as goal

pub returns-clause-value : goal.returns-clause-value
returns-clause-value c = rw (length-points_of c.args.self.now) c.num_elements.ensures.value
