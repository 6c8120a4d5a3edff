use Rattle.std.proofs.Common.{◌≡◌, ◌<◌, ℕ, get_or}
use Rattle.sharding_format.specs.Index.{slot_at}
use Rattle.sharding_format.specs.declared.slot.Slot.TheVariants.{Absent}
use Rattle.sharding_format.proofs.index.ShardIndex.any_absent_of.Given as goal

abbrev pub invariant-loop-j : goal.invariant-loop-j
invariant-loop-j l = (j : ℕ) → j < l.j → slot_at l.self.len l.self.numbers.items (get_or l.subchunks j 0) ≡ Absent → ⊥
