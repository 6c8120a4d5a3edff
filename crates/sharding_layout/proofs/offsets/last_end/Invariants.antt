-- The greatest end so far.
use Rattle.std.proofs.Common.{◌≡◌}
use Rattle.sharding_layout.specs.Offsets.{last_end}
use Rattle.sharding_layout.proofs.offsets.last_end.Given as goal

abbrev pub invariant-loop-k : goal.invariant-loop-k
invariant-loop-k l = l.last ≡ last_end l.least l.cached.len l.cached.numbers.now l.k
