use Rattle.std.proofs.Common.{◌≡◌, ◌*◌, ◌∙◌, length, arith}
use Rattle.parts_row_major.specs.Numbering.{point_of}
use Rattle.parts_row_major.proofs.NumberingLaws.{length-point_of}
use Rattle.sharding_format.proofs.SubsetLemmas.{zip_with-from_each, product_fits}
use Rattle.sharding_format.proofs.grid.first_cell.Goals as goal

pub returns-in_default : goal.returns-in_default
returns-in_default c = λ subset.
    let point = point_of c.args.number c.args.grid.now in
    let axes : length point ≡ length c.args.sub.now = length-point_of c.args.number c.args.grid.now ∙ c.requires.axes in
    c.in_default.ensures (rw c.number_along-point.ensures (product_fits point c.args.sub.now c.loop-axis.axis axes (omega arith) subset))

pub returns : goal.returns
returns c =
    let point = point_of c.args.number c.args.grid.now in
    let axes : length point ≡ length c.args.sub.now = length-point_of c.args.number c.args.grid.now ∙ c.requires.axes in
    zip_with-from_each ◌*◌ point c.args.sub.now _ axes (omega (arith, axes, c.loop-axis.invariant.counted)) (λ k below. c.loop-axis.invariant.product k (omega (arith, axes)))
