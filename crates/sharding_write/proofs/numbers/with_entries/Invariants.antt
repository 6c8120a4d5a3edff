-- The pairs so far are set.
use Rattle.std.proofs.Common.{get_or}
use Rattle.sharding_format.specs.declared.slot.Slot.TheVariants.{Bad}
use Rattle.sharding_write.specs.Writing.{HasEntries}
use Rattle.sharding_write.proofs.numbers.with_entries.Given as goal

abbrev pub invariant-loop-j : goal.invariant-loop-j
invariant-loop-j l = HasEntries l.touched (λ i. get_or l.slots i Bad) l.start l.fn.numbers.items l.numbers.items l.j
