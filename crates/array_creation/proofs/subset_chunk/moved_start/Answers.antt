use Rattle.std.proofs.Common.{◌≡◌, ◌+◌, ◌∙◌, length, arith, refl}
use Rattle.std.proofs.lemmas.List.{take_all}
use Rattle.parts_row_major.specs.Numbering.{zip_with}
use Rattle.parts_row_major.proofs.SubsetLaws.{length-zip_with, zip_with_more}
use Rattle.array_creation.proofs.subset_chunk.moved_start.Goals as goal

pub loop-axis-preserved : goal.loop-axis-preserved
loop-axis-preserved c =
    let origin = c.args.origin.now in
    let start = c.args.start.now in
    let same : length origin ≡ length start = omega (arith, c.if-origin-start.false) in
    zip_with_more ◌+◌ origin start c.loop-axis.axis _ _ _ _ same (omega arith) refl refl c.loop-axis.invariant (rw c.in-Some.ensures.1 at c.in_ok-push.ensures.items)

pub returns : goal.returns
returns c =
    let origin = c.args.origin.now in
    let start = c.args.start.now in
    let same : length origin ≡ length start = omega (arith, c.if-origin-start.false) in
    c.loop-axis.invariant ∙ take_all c.loop-axis.axis (zip_with ◌+◌ origin start) (omega (arith, length-zip_with ◌+◌ origin start same))
