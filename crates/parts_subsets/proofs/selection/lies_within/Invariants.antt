use Rattle.std.proofs.Common.{ℕ, ◌<◌, get_or, []}
use Rattle.parts_row_major.specs.Numbering.{IsInside}
use Rattle.parts_subsets.proofs.selection.lies_within.Given as goal

abbrev pub invariant-loop-i : goal.invariant-loop-i
invariant-loop-i g l =
    (k : ℕ) → k < l.i → IsInside (get_or (g.N.Indexer.selection l.indexer).points k []) l.shape
