use Rattle.parts_subsets.proofs.GridLaws.{count-positive}
use Rattle.sharding_layout.proofs.runs.elements_in_run.Goals as goal

pub are_runs-requires-clause-some : goal.are_runs-requires-clause-some
are_runs-requires-clause-some c = rw c.as_slice.ensures.value (count-positive c.args.shape.now c.as_slice.ensures.positive)
