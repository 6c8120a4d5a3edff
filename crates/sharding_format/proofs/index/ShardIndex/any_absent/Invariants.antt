use Rattle.std.proofs.Common.{◌≡◌, ◌<◌, ℕ}
use Rattle.sharding_format.specs.Index.{slot_at}
use Rattle.sharding_format.specs.declared.slot.Slot.TheVariants.{Absent}
use Rattle.sharding_format.proofs.index.ShardIndex.any_absent.Given as goal

abbrev pub invariant-loop-k : goal.invariant-loop-k
invariant-loop-k l = (k : ℕ) → k < l.k → slot_at l.self.len l.self.numbers.items k ≡ Absent → ⊥
