use Rattle.std.proofs.Common.{◌≤◌, ◌-◌, ◌∙◌, arith, refl}
use Rattle.std.proofs.lemmas.List.{take_all}
use Rattle.std.proofs.lemmas.List.Elements.{AllZip-get_or}
use Rattle.parts_row_major.specs.Numbering.{zip_with}
use Rattle.parts_row_major.proofs.SubsetLaws.{length-zip_with, zip_with_more}
use Rattle.parts_subsets.proofs.subset.overlap.start_from.Goals as goal

pub overflow_sub-start : goal.overflow_sub-start
overflow_sub-start c =
    let below = AllZip-get_or ◌≤◌ c.args.origin.now c.args.start.now c.loop-axis.axis 0 0 c.requires.not_below (omega arith) in
    omega (arith, below)

pub loop-axis-preserved : goal.loop-axis-preserved
loop-axis-preserved c =
    zip_with_more ◌-◌ c.args.start.now c.args.origin.now c.loop-axis.axis _ _ _ _ c.requires.axes (omega arith) refl refl c.loop-axis.invariant c.in_ok-push.ensures.ok

pub returns : goal.returns
returns c =
    c.loop-axis.invariant ∙ take_all c.loop-axis.axis (zip_with ◌-◌ c.args.start.now c.args.origin.now) (omega (arith, length-zip_with ◌-◌ c.args.start.now c.args.origin.now c.requires.axes))
