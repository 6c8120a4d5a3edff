use Rattle.std.proofs.Common.{max, ◌∙◌, arith, refl}
use Rattle.std.proofs.lemmas.List.{take_all}
use Rattle.parts_row_major.specs.Numbering.{zip_with}
use Rattle.parts_row_major.proofs.SubsetLaws.{length-zip_with, zip_with_more}
use Rattle.parts_subsets.proofs.subset.overlap.overlap_starts.Goals as goal

pub loop-axis-preserved : goal.loop-axis-preserved
loop-axis-preserved c =
    let more = rw c.max.ensures at c.in_ok-push.ensures.ok in
    zip_with_more max c.args.start.now c.args.other_start.now c.loop-axis.axis _ _ _ _ c.requires (omega arith) refl refl c.loop-axis.invariant more

pub returns : goal.returns
returns c =
    c.loop-axis.invariant ∙ take_all c.loop-axis.axis (zip_with max c.args.start.now c.args.other_start.now) (omega (arith, length-zip_with max c.args.start.now c.args.other_start.now c.requires))
