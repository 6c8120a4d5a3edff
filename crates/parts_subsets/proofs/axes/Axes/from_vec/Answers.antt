use Rattle.parts_subsets.proofs.axes.Axes.from_vec.Goals as goal
use Rattle.parts_subsets.proofs.AxesLemmas.{held_whole}

pub returns : goal.returns
returns c = held_whole _ c.args.many.items
