use Rattle.std.proofs.Common.{◌≡◌, length}
use Rattle.sharding_c.specs.Checks.{AreKinds}
use Rattle.sharding_c.proofs.check.write_kinds.Given as goal

abbrev pub invariant-loop-k : goal.invariant-loop-k
invariant-loop-k l = record {
  same_length : length l.kinds ≡ length l.fn.kinds;
  kinds : AreKinds l.start l.end l.numbers l.fn.kinds l.kinds l.k;
}
