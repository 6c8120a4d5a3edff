-- The pairs so far are absent.
use Rattle.sharding_format.specs.declared.slot.Slot.TheVariants.{Absent}
use Rattle.sharding_write.specs.Writing.{HasEntries}
use Rattle.sharding_write.proofs.numbers.cleared.Given as goal

abbrev pub invariant-loop-j : goal.invariant-loop-j
invariant-loop-j l = HasEntries l.touched (λ i. Absent) 0 l.numbers l.new.items l.j
