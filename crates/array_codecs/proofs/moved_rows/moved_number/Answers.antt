use Rattle.std.proofs.Common.{sym, arith}
use Rattle.parts_row_major.specs.Numbering.{point_of}
use Rattle.parts_row_major.proofs.NumberingLaws.{point_inside}
use Rattle.array_codecs.specs.AxisOrderLaws.{length-permuted, permuted_inside}
use Rattle.array_codecs.proofs.TransposeSteps.{length-moved, moved_point}
use Rattle.array_codecs.proofs.moved_rows.moved_number.Goals as goal

pub requested_number-requires-clause-axes : goal.requested_number-requires-clause-axes
requested_number-requires-clause-axes c =
    let points = c.args.points.now in
    rw c.requires.shape (sym (length-permuted points.order.now points.shape.now))

pub requested_number-requires-clause-position : goal.requested_number-requires-clause-position
requested_number-requires-clause-position c =
    let points = c.args.points.now in
    omega (arith, c.requires.below, length-moved points.order.now points.shape.now)

pub requested_number-requires-clause-inside : goal.requested_number-requires-clause-inside
requested_number-requires-clause-inside c =
    let points = c.args.points.now in
    let order = points.order.now in
    let shape = points.shape.now in
    rw (moved_point order shape c.args.number c.requires.below, c.requires.shape)
    (permuted_inside order c.requires.permutation.inverse (point_of c.args.number shape) shape c.requires.permutation.undone points.axes (point_inside c.args.number shape c.requires.below))

pub returns : goal.returns
returns c =
    let points = c.args.points.now in
    rw (moved_point points.order.now points.shape.now c.args.number c.requires.below, c.requires.shape) at c.requested_number.ensures.value
