use Rattle.std.proofs.Common.{◌≡◌, ℕ, ◌<◌, length, slice_index}
use Rattle.sharding_c.specs.Layouts.{number_at}
use Rattle.sharding_c.proofs.index.read_numbers.Given as goal

abbrev pub invariant-loop-i : goal.invariant-loop-i
invariant-loop-i l = record {
  same_length : length l.numbers ≡ length l.fn.numbers;
  read : (k : ℕ) → k < l.i → slice_index l.numbers k ≡ number_at l.flags l.bytes k;
}
