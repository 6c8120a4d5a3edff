-- The numbers of the slots so far.
use Rattle.std.proofs.Common.{◌<◌, ◌^◌}
use Rattle.std.specs.List.{All}
use Rattle.sharding_format.specs.Laying.{AreNumbersOf}
use Rattle.sharding_index.proofs.numbers.numbers_of_slots.Given as goal

abbrev pub invariant-loop-k : goal.invariant-loop-k
invariant-loop-k l = record {
  numbers : AreNumbersOf l.start l.slots l.numbers.items l.k;
  below : All (λ n. n < 2 ^ 64) l.numbers.items;
}
