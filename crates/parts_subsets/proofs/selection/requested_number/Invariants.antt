use Rattle.std.proofs.Common.{◌≡◌, get_or, drop, []}
use Rattle.parts_row_major.specs.Numbering.{count_of, number_of}
use Rattle.parts_subsets.proofs.selection.requested_number.Given as goal

abbrev pub invariant-loop-axis : goal.invariant-loop-axis
invariant-loop-axis g l =
    let point = get_or (g.N.Indexer.selection l.indexer).points l.i [] in
    record {
      stride_is : l.stride ≡ count_of (drop l.axis l.shape);
      so_far : l.number ≡ number_of (drop l.axis point) (drop l.axis l.shape);
    }
