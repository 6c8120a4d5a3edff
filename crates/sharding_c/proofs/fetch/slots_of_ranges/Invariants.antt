use Rattle.std.proofs.Common.{◌≡◌, take}
use Rattle.std.specs.List.{All}
use Rattle.sharding_format.specs.Compacting.{IsGood}
use Rattle.sharding_plans.specs.Fetches.{Fits, stored_slices}
use Rattle.sharding_c.specs.Fetching.{slots_of_ranges}
use Rattle.sharding_c.proofs.fetch.slots_of_ranges.Given as goal

abbrev pub invariant-loop-i : goal.invariant-loop-i
invariant-loop-i l = record {
  slots_are : l.slots.items ≡ slots_of_ranges (take l.i l.ranges);
  good : All IsGood l.slots.items;
  fits : All Fits (stored_slices l.slots.items);
}
