use Rattle.std.proofs.Common.{◌≡◌, drop}
use Rattle.parts_row_major.specs.Numbering.{count_of}
use Rattle.parts_row_major.proofs.runs.row_set.Given as goal

abbrev pub invariant-loop-axis : goal.invariant-loop-axis
invariant-loop-axis l = record {
  spanned : drop l.axis l.len ≡ drop l.axis l.shape;
  so_far : l.run ≡ count_of (drop l.axis l.len);
}
