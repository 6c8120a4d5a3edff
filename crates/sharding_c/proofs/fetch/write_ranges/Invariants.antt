use Rattle.std.proofs.Common.{◌≡◌, length}
use Rattle.sharding_c.specs.Fetching.{AreRangesWritten}
use Rattle.sharding_c.proofs.fetch.write_ranges.Given as goal

abbrev pub invariant-loop-i : goal.invariant-loop-i
invariant-loop-i l = record {
  same_length : length l.room ≡ length l.fn.room;
  written : AreRangesWritten l.fetches l.fn.room l.room l.i;
}
