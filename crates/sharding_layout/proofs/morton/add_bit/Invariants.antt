-- The axes from `axis` on have the new bit.
use Rattle.std.proofs.Common.{◌≡◌, drop}
use Rattle.parts_row_major.specs.Numbering.{count_of}
use Rattle.sharding_layout.specs.steps.Reached.{AreReached}
use Rattle.sharding_layout.proofs.morton.add_bit.Given as goal

abbrev pub invariant-loop-axis : goal.invariant-loop-axis
invariant-loop-axis l = record {
  stride_is : l.stride ≡ count_of (drop l.axis l.grid);
  reached : AreReached l.grid l.bit l.axis l.numbers.items;
}
