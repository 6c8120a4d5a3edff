use Rattle.std.proofs.Common.{◌≡◌, ℕ, ◌<◌, length, get_or}
use Rattle.sharding_c.specs.Plain.{mirrored}
use Rattle.sharding_c.proofs.plain.reverse_numbers.Given as goal

abbrev pub invariant-loop-i : goal.invariant-loop-i
invariant-loop-i l = record {
  same : length l.room ≡ length l.numbers;
  bytes : (i : ℕ) → i < l.i → get_or l.room i 0 ≡ get_or l.numbers (mirrored l.size i) 0;
}
