-- The last axes are in the rows.
use Rattle.std.proofs.Common.{◌≡◌, ◌/◌, drop}
use Rattle.parts_row_major.specs.Numbering.{count_of}
use Rattle.sharding_gather.specs.steps.OverlapRows.{shared_in_subchunk, shared_in_array}
use Rattle.sharding_gather.proofs.OverlapRowLemmas.{AreRowsFrom}
use Rattle.sharding_gather.proofs.overlap_rows.shared_rows.Given as goal

abbrev pub invariant-loop-axis : goal.invariant-loop-axis
invariant-loop-axis l =
    let array = shared_in_array l.start l.len l.grid l.sub l.origin l.number in
    let part = shared_in_subchunk l.start l.len l.grid l.sub l.number in record {
      rest_is : l.rest ≡ l.number / count_of (drop l.axis l.grid);
      into_stride_is : l.into_stride ≡ count_of (drop l.axis l.around);
      from_stride_is : l.from_stride ≡ count_of (drop l.axis l.sub);
      so_far : AreRowsFrom l.axis array.shape array.start l.around part.start l.sub l.rows;
    }
