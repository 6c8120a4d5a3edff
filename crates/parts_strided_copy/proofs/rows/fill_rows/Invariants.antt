use Rattle.std.proofs.Common.{◌≡◌, ◌*◌, length}
use Rattle.parts_row_major.specs.Pieces.{piece, IsUpdated}
use Rattle.parts_row_major.specs.Runs.{row_position}
use Rattle.parts_strided_copy.proofs.rows.fill_rows.Given as goal

abbrev pub invariant-loop-k : goal.invariant-loop-k
invariant-loop-k l = record {
  whole : length l.output ≡ length l.initial.output;
  so_far : IsUpdated (l.k * l.run) (row_position l.to.first l.to.stride l.run) (piece l.size l.initial.output) (λ j. l.element) (piece l.size l.output);
}
