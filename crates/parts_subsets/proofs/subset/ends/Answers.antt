use Rattle.std.proofs.Common.{◌+◌, ◌^◌, ◌<◌, ◌∙◌, arith, refl}
use Rattle.std.proofs.lemmas.List.{take_all}
use Rattle.std.proofs.lemmas.List.Elements.{length_all_zip, AllZip-get_or}
use Rattle.parts_row_major.specs.Numbering.{zip_with}
use Rattle.parts_row_major.proofs.SubsetLaws.{length-zip_with, zip_with_more}
use Rattle.parts_subsets.proofs.subset.ends.Goals as goal

pub overflow_add-start : goal.overflow_add-start
overflow_add-start c =
    let fits = AllZip-get_or (λ first len. first + len < 2 ^ 64) c.args.start.now c.args.shape.now c.loop-axis.axis 0 0 c.requires (omega arith) in
    omega (arith, fits)

pub loop-axis-preserved : goal.loop-axis-preserved
loop-axis-preserved c =
    let start = c.args.start.now in
    let shape = c.args.shape.now in
    let same = length_all_zip (λ first len. first + len < 2 ^ 64) start shape c.requires in
    zip_with_more ◌+◌ start shape c.loop-axis.axis _ _ _ _ same (omega arith) refl refl c.loop-axis.invariant c.in_ok-push.ensures.items

pub returns : goal.returns
returns c =
    let start = c.args.start.now in
    let shape = c.args.shape.now in
    let same = length_all_zip (λ first len. first + len < 2 ^ 64) start shape c.requires in
    c.loop-axis.invariant ∙ take_all c.loop-axis.axis (zip_with ◌+◌ start shape) (omega (arith, length-zip_with ◌+◌ start shape same))
