use Rattle.std.proofs.Common.{◌≡◌, ◌<◌, ℕ}
use Rattle.parts_arrays.specs.Arrays.{part}
use Rattle.parts_arrays.proofs.array_bytes.fill.are_parts_alike.Given as goal

abbrev pub invariant-loop-i : goal.invariant-loop-i
invariant-loop-i l = (k : ℕ) → k < l.i → part l.bytes l.offsets k ≡ l.element
