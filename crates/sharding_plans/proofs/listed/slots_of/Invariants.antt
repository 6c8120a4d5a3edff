use Rattle.std.proofs.Common.{◌≡◌, map, take}
use Rattle.sharding_format.specs.Index.{slot_at}
use Rattle.sharding_plans.proofs.listed.slots_of.Given as goal

abbrev pub invariant-loop-number : goal.invariant-loop-number
invariant-loop-number l = l.slots.items ≡ map (slot_at l.index.len l.index.numbers.now) (take l.number-index l.subchunks)
