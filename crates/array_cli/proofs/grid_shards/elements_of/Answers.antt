use Rattle.std.proofs.Common.{◌^◌, ◌+◌, ◌<◌, ◌∙◌, arith, sym}
use Rattle.parts_row_major.proofs.SubsetLaws.{all_zip_from_each}
use Rattle.array_cli.proofs.grid_shards.elements_of.Goals as goal

pub unreachable-requires : goal.unreachable-requires
unreachable-requires c =
    let l = c.loop-axis in
    c.in_default-new_with_start_shape.ensures
    (all_zip_from_each (λ first len. first + len < 2 ^ 64) l.starts.items l.counts.items (l.invariant.begun ∙ sym l.invariant.counted) (λ k lt.
    let each = l.invariant.each k (omega (arith, l.invariant.begun, lt)) in omega (arith, each.2, c.type_inv.shape k)))
