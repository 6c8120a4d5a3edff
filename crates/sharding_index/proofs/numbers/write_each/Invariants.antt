-- The numbers so far are written.
use Rattle.sharding_index.proofs.NumberLaws.{AreWritten}
use Rattle.sharding_index.proofs.numbers.write_each.Given as goal

abbrev pub invariant-loop-k : goal.invariant-loop-k
invariant-loop-k l = AreWritten l.numbers l.bytes l.k
