use Rattle.std.proofs.Common.{ℕ, ◌<◌, get_or, []}
use Rattle.parts_subsets.proofs.selection.is_inside.Given as goal

abbrev pub invariant-loop-axis : goal.invariant-loop-axis
invariant-loop-axis g l =
    (k : ℕ) → k < l.axis → get_or (get_or (g.N.Indexer.selection l.indexer).points l.i []) k 0 < get_or l.shape k 0
