use Rattle.std.proofs.Common.{◌≡◌, ℕ, ap, length, replicate, ◌∙◌, arith}
use Rattle.parts_row_major.proofs.SubsetLaws.{is_subset_from_zero}
use Rattle.parts_subsets.proofs.subset.ArraySubset.new_with_shape.Goals as goal

pub invariant_of-result : goal.invariant_of-result
invariant_of-result c =
    let long : c.len.result ≡ length c.args.shape.items = omega (arith, c.len.ensures) in
    let zeros = c.in_ok-start.ensures ∙ ap (λ n. replicate {A = ℕ} n 0) long in
    rw c.from_vec-shape.ensures (is_subset_from_zero c.in_ok-start.start.items c.args.shape.items zeros (λ k lt. omega arith))
