use Rattle.std.proofs.Common.{◌≡◌, ℕ, length}
use Rattle.parts_row_major.specs.Pieces.{piece}
use Rattle.parts_row_major.specs.Runs.{IsPartly}
use Rattle.parts_strided_copy.proofs.pieces.fill_subset.Given as goal

abbrev pub invariant-loop-first : goal.invariant-loop-first
invariant-loop-first l = record {
  whole : length l.output ≡ length l.initial.output;
  so_far : (done : ℕ) × IsPartly l.subset l.shape done l.first-iterator (piece l.size l.initial.output) (λ k. l.element) (piece l.size l.output);
}
