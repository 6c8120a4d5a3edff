use Rattle.std.proofs.Common.{◌≡◌, ◌∙◌, ℕ, ◌+◌, ap, arith}
use Rattle.parts_row_major.specs.Subsets.{number_in}
use Rattle.parts_row_major.specs.Pieces.{piece}
use Rattle.parts_strided_copy.proofs.RowParts.{element_inside}
use Rattle.parts_strided_copy.proofs.rows.scatter.Goals as goal

pub scatter-requires-clause-inside : goal.scatter-requires-clause-inside
scatter-requires-clause-inside c =
    rw c.new-strided.ensures (λ k lt. element_inside c.args.subset.now c.args.shape.now k c.args.size c.requires.served.0 lt c.requires.whole)

pub returns : goal.returns
returns c =
    let put = rw c.new-strided.ensures at c.scatter.ensures in
    let newer : ℕ → _ = piece c.args.size c.scatter.new.output in
    let at : (k : ℕ) → number_in c.args.subset.now c.args.shape.now k ≡ 0 + number_in c.args.subset.now c.args.shape.now k = λ k. omega arith in
    record {
      inside = λ k lt. ap newer (at k) ∙ put.inside k lt;
      outside = λ i h. put.outside i (λ k lt e. h k lt (at k ∙ e));
    }
