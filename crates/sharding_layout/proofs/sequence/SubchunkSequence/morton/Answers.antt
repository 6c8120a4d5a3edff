use Rattle.std.proofs.Common.{inl, inr, ◌∙◌}
use Rattle.parts_row_major.proofs.NumberingLaws.{count_positive}
use Rattle.sharding_format.specs.WriteOrderLaws.{order_permutes}
use Rattle.sharding_format.specs.declared.order.SubchunkWriteOrder.TheVariants.{Morton}
use Rattle.sharding_layout.proofs.ReachLemmas.{ascends_by_itself}
use Rattle.sharding_layout.proofs.sequence.SubchunkSequence.morton.Goals as goal

pub returns-then-grid-lt2 : goal.returns-then-grid-lt2
returns-then-grid-lt2 c =
    c.ascending.ensures
    ∙ ascends_by_itself c.args.grid.now c.args.count c.requires.count
    (rw c.requires.count (count_positive c.args.grid.now (λ i below. c.requires.positive i 0 below))) c.ranges.count.fits
    (elim c.then-grid-lt2.either [ inl axes ↦ inl axes | inr one ↦ inr one.1 ])

pub invariant_of-result : goal.invariant_of-result
invariant_of-result c = rw (c.in_ok-listed.ensures, c.requires.count) (order_permutes Morton c.args.grid.now)
