use Rattle.std.proofs.Common.{◌≡◌, ℕ, ◌*◌, ◌^◌, ◌<◌, length, get_or, drop}
use Rattle.parts_row_major.specs.Numbering.{count_of}
use Rattle.parts_row_major.proofs.numbering.count.Given as goal

abbrev pub invariant-loop-axis : goal.invariant-loop-axis
invariant-loop-axis l = record {
  fits : l.product < 2 ^ 64;
  so_far : l.product * count_of (drop l.axis-index l.shape) ≡ count_of l.shape;
  no_zero : (k : ℕ) → k < length l.shape → 0 < get_or l.shape k 0;
}
