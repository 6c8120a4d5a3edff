use Rattle.std.proofs.Common.{◌∙◌, refl, arith}
use Rattle.parts_row_major.specs.Subsets.{number_in}
use Rattle.parts_row_major.proofs.PieceLaws.{number_in_below}
use Rattle.parts_arrays.proofs.target.FixedTarget.copy_subset_from.Goals as goal

pub returns : goal.returns
returns c =
    let subset = c.args.subset.now in
    let shape = c.args.shape.now in
    let wrote = c.copy_subset.ensures in
    record {
      reference = refl;
      element_size = refl;
      shape = refl;
      subset = refl;
      length = c.copy_subset.auto.output;
      elements = record {
        inside = λ k lt.
            let below = number_in_below subset shape k c.requires.served.0 (omega (arith, c.requires.counted)) in
            wrote.inside k lt ∙ c.whole_elements-update.ensures.elements (number_in subset shape k) (omega (arith, c.requires.all, below));
        outside = wrote.outside;
      };
    }
