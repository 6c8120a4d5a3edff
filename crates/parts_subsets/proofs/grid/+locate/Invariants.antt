use Rattle.std.proofs.Common.{length}
use Rattle.parts_subsets.proofs.grid.+locate.Given as goal

abbrev pub decreases-locate : goal.decreases-locate
decreases-locate l = length l.shape.now
