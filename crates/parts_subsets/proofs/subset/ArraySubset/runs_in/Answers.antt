use Rattle.parts_subsets.proofs.subset.ArraySubset.runs_in.Goals as goal

pub returns-clause-long : goal.returns-clause-long
returns-clause-long c = rw c.shape.ensures.value at c.of_subset.ensures.long
