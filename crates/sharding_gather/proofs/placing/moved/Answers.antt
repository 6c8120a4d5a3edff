use Rattle.std.proofs.Common.{◌+◌, ◌^◌, ◌<◌, ◌∙◌, arith, refl}
use Rattle.std.proofs.lemmas.List.{take_all}
use Rattle.std.proofs.lemmas.List.Elements.{length_all_zip}
use Rattle.parts_row_major.specs.Numbering.{zip_with}
use Rattle.parts_row_major.proofs.SubsetLaws.{length-zip_with, zip_with_more}
use Rattle.sharding_gather.proofs.placing.moved.Goals as goal

pub loop-axis-preserved : goal.loop-axis-preserved
loop-axis-preserved c =
    let origin = c.args.origin.now in
    let start = c.args.start.now in
    let same = length_all_zip (λ first len. first + len < 2 ^ 64) origin start c.requires in
    zip_with_more ◌+◌ origin start c.loop-axis.axis _ _ _ _ same (omega arith) refl refl c.loop-axis.invariant c.in_ok-push.ensures.ok

pub returns : goal.returns
returns c =
    let origin = c.args.origin.now in
    let start = c.args.start.now in
    let same = length_all_zip (λ first len. first + len < 2 ^ 64) origin start c.requires in
    c.loop-axis.invariant ∙ take_all c.loop-axis.axis (zip_with ◌+◌ origin start) (omega (arith, length-zip_with ◌+◌ origin start same))
