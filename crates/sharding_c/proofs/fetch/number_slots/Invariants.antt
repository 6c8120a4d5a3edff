use Rattle.std.proofs.Common.{◌≡◌, length}
use Rattle.sharding_c.specs.Fetching.{AreFetchNumbers}
use Rattle.sharding_c.proofs.fetch.number_slots.Given as goal

abbrev pub invariant-loop-i : goal.invariant-loop-i
invariant-loop-i l = record {
  same_length : length l.numbers ≡ length l.fn.numbers;
  numbered : AreFetchNumbers l.fetches l.slots l.numbers l.i;
}
