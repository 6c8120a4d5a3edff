use Rattle.std.proofs.Common.{◌+◌, ◌^◌, ◌<◌, arith, refl}
use Rattle.parts_row_major.proofs.SubsetLaws.{all_zip_from_each}
use Rattle.parts_subsets.proofs.subset.is_subset.Goals as goal

pub returns : goal.returns
returns c =
    let known = c.loop-axis.invariant in
    let all = all_zip_from_each (λ first len. first + len < 2 ^ 64) c.args.start.now c.args.shape.now known.0 (λ k lt. known.1 k (omega arith)) in
    (λ _. all, λ _. refl)
