use Rattle.std.proofs.Common.{◌≡◌, ◌/◌, ◌<◌, drop}
use Rattle.parts_row_major.specs.Numbering.{count_of}
use Rattle.parts_row_major.proofs.numbering.number_along.Given as goal

abbrev pub invariant-loop-later : goal.invariant-loop-later
invariant-loop-later l = record {
  after : l.axis < l.later;
  rest_is : l.rest ≡ l.number / count_of (drop l.later l.shape);
}
