-- The cells so far have been written.
use Rattle.std.proofs.Common.{Some, []}
use Rattle.parts_row_major.specs.Pieces.{piece}
use Rattle.sharding_format.specs.steps.Decoding.{element_at}
use Rattle.sharding_gather.specs.steps.Sorting.{IsWritten}
use Rattle.sharding_gather.proofs.sorted.put_cells.Given as goal

abbrev pub invariant-loop-i : goal.invariant-loop-i
invariant-loop-i l = record {
  so_far : IsWritten l.requested l.i (piece l.size l.fn.bytes) (element_at [] (Some l.array)) (piece l.size l.bytes);
}
