-- The numbers whose coordinates have no other bits.
use Rattle.std.proofs.Common.{length}
use Rattle.sharding_layout.specs.steps.Reached.{AreReached}
use Rattle.sharding_layout.proofs.morton.morton_numbers.Given as goal

abbrev pub invariant-loop-bit : goal.invariant-loop-bit
invariant-loop-bit l = AreReached l.grid l.bit (length l.grid) l.numbers.items
