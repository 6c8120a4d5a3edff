use Rattle.std.proofs.Common.{◌≡◌, take}
use Rattle.sharding_plans.specs.Fetches.{stored_slices}
use Rattle.sharding_plans.proofs.fetches.slices_of.Given as goal

abbrev pub invariant-loop-slot : goal.invariant-loop-slot
invariant-loop-slot l = l.slices.items ≡ stored_slices (take l.slot-index l.slots)
