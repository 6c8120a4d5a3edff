use Rattle.std.proofs.Common.{◌-◌, sym, arith}
use Rattle.parts_row_major.proofs.PointLaws.{axis_positive, rest_more, point_of_at}
use Rattle.parts_row_major.proofs.numbering.number_along.Goals as goal

pub nonzero_div-rest : goal.nonzero_div-rest
nonzero_div-rest c =
    axis_positive c.args.number c.args.shape.now (c.loop-later.later - 1) c.requires.inside (omega arith)

pub loop-later-preserved : goal.loop-later-preserved
loop-later-preserved c =
    let known = c.loop-later.invariant in
    record {
      after = omega arith;
      rest_is = rest_more c.args.number c.args.shape.now (c.loop-later.later - 1) c.loop-later.later c.loop-later.rest (omega arith) (omega arith) known.rest_is;
    }

pub nonzero_rem-result : goal.nonzero_rem-result
nonzero_rem-result c = axis_positive c.args.number c.args.shape.now c.args.axis c.requires.inside c.requires.on_axis

pub returns : goal.returns
returns c =
    let known = c.loop-later.invariant in
    let at = point_of_at c.args.number c.args.shape.now c.args.axis c.loop-later.later c.requires.inside c.requires.on_axis (omega arith) in
    rw known.rest_is (sym at)
