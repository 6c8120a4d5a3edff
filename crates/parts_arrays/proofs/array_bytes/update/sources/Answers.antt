use Rattle.std.proofs.Common.{arith, Some, ◌∙◌}
use Rattle.std.proofs.lemmas.List.{length-set}
use Rattle.parts_row_major.specs.Subsets.{number_in}
use Rattle.parts_row_major.proofs.PieceLaws.{same_point}
use Rattle.parts_arrays.proofs.ArrayLaws.{source_more, source_below}
use Rattle.parts_arrays.proofs.array_bytes.update.sources.Goals as goal

pub loop-position-preserved : goal.loop-position-preserved
loop-position-preserved c =
    let known = c.loop-position.invariant in
    let subset = c.args.subset.now in
    let shape = c.args.shape.now in
    let n = c.loop-position.position in
    let made = c.loop-position.made.items in
    record {
      whole = length-set made c.number_at.result (Some n) ∙ known.whole;
      below = source_below n c.number_at.result made (omega (arith, known.whole, c.number_at.ensures.below)) known.below;
      so_far = source_more n c.number_at.result (number_in subset shape) made c.number_at.ensures.value (omega (arith, known.whole, c.number_at.ensures.below))
          (λ k lt e. let same = same_point subset shape k n c.number_at.ensures.well_formed c.requires.served.0 (omega arith) (omega arith) e in omega arith)
          known.so_far;
    }
