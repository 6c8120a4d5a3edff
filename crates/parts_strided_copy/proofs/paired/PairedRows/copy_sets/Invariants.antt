-- The sets so far are copied.
use Rattle.std.proofs.Common.{◌≡◌, ◌*◌, length}
use Rattle.parts_row_major.specs.Pieces.{piece, IsUpdated}
use Rattle.parts_strided_copy.specs.Paired.{into_at, from_at}
use Rattle.parts_strided_copy.proofs.paired.PairedRows.copy_sets.Given as goal

abbrev pub invariant-loop-q : goal.invariant-loop-q
invariant-loop-q g l = record {
  whole : length l.output ≡ length l.initial.output;
  so_far : IsUpdated (l.q * (l.first.rows * l.self.run)) (into_at l.self) (piece l.size l.initial.output) (λ k. piece l.size l.update (from_at l.self k)) (piece l.size l.output);
}
