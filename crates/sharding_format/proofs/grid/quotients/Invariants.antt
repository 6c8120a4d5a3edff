use Rattle.std.proofs.Common.{◌≡◌, ◌<◌, ◌/◌, ◌%◌, ℕ, length, get_or}
use Rattle.sharding_format.proofs.grid.quotients.Given as goal

abbrev pub invariant-loop-i : goal.invariant-loop-i
invariant-loop-i l = record {
  counted : length l.axes.items ≡ l.i;
  quotient : (k : ℕ) → k < l.i → get_or l.axes.items k 0 ≡ get_or l.shape k 0 / get_or l.sub k 0;
  divided : (k : ℕ) → k < l.i → get_or l.shape k 0 % get_or l.sub k 0 ≡ 0;
}
