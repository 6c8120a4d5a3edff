use Rattle.std.proofs.Common.{ℕ, ◌<◌, get_or}
use Rattle.sharding_format.specs.Compacting.{IsGood}
use Rattle.sharding_format.specs.declared.slot.Slot.TheVariants.{Absent}
use Rattle.sharding_c.proofs.points.first_bad.Given as goal

abbrev pub invariant-loop-j : goal.invariant-loop-j
invariant-loop-j l = (i : ℕ) → i < l.j → IsGood (get_or l.slots i Absent)
