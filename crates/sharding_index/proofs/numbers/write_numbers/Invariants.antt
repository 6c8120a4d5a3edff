-- The blocks of numbers so far are written.
use Rattle.std.proofs.Common.{◌*◌}
use Rattle.sharding_index.proofs.NumberLaws.{AreFirst}
use Rattle.sharding_index.proofs.numbers.write_numbers.Given as goal

abbrev pub invariant-loop-k : goal.invariant-loop-k
invariant-loop-k l = AreFirst l.numbers l.bytes (l.k * 256)
