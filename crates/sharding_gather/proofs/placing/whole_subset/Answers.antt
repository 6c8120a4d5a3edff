use Rattle.std.proofs.Common.{arith}
use Rattle.parts_row_major.proofs.SubsetLaws.{is_subset_from_zero}
use Rattle.sharding_gather.proofs.placing.whole_subset.Goals as goal

pub unreachable-requires : goal.unreachable-requires
unreachable-requires c =
    c.in-None.ensures (rw c.in_ok-lengths.ensures (is_subset_from_zero c.in_ok-start.start.items c.args.shape.now c.in_ok-start.ensures (λ k lt. omega (arith, c.type_inv.shape k))))
