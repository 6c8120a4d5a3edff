use Rattle.std.proofs.Common.{◌∙◌, ap, get_or, refl, arith}
use Rattle.std.proofs.lemmas.List.{get_or_default}
use Rattle.sharding_format.specs.Laying.{offset_number, size_number}
use Rattle.sharding_format.specs.declared.slot.Slot.TheVariants.{Absent, Bad}
use Rattle.sharding_write.proofs.EntryLemmas.{one_more_entry}
use Rattle.sharding_write.proofs.numbers.with_entries.Goals as goal

pub loop-j-preserved : goal.loop-j-preserved
loop-j-preserved c =
    let slot = get_or_default c.args.slots.now c.loop-j.j Absent Bad (omega arith) in
    one_more_entry c.args.touched.now (λ i. get_or c.args.slots.now i Bad) c.args.start c.args.numbers.items c.loop-j.numbers.items _ c.loop-j.j _ _ c.loop-j.invariant c.requires.rising (omega arith)
    (c.requires.below c.loop-j.j 0 (omega arith)) (c.entry_of-offset.ensures.offset ∙ ap (offset_number c.args.start) slot) (c.entry_of-offset.ensures.size ∙ ap size_number slot) refl
