use Rattle.std.proofs.Common.{refl, arith}
use Rattle.sharding_format.specs.declared.slot.Slot.TheVariants.{Absent}
use Rattle.sharding_write.proofs.EntryLemmas.{one_more_entry}
use Rattle.sharding_write.proofs.numbers.cleared.Goals as goal

pub loop-j-preserved : goal.loop-j-preserved
loop-j-preserved c =
    one_more_entry c.args.touched.now (λ i. Absent) 0 c.args.numbers.now c.loop-j.new.items _ c.loop-j.j _ _ c.loop-j.invariant c.requires.rising (omega arith)
    (c.requires.below c.loop-j.j 0 (omega arith)) refl refl refl
