use Rattle.std.proofs.Common.{◌-◌, ◌*◌, ap, arith}
use Rattle.parts_row_major.proofs.PointLaws.{axis_positive, rest_more}
use Rattle.parts_subsets.proofs.GridLaws.{get_or-grid}
use Rattle.sharding_gather.proofs.LocatingLemmas.{same_axes, subchunk_step, position_step, last_axes, all_subchunk, all_position}
use Rattle.sharding_gather.proofs.sorted.located.Goals as goal

pub loop-axis-init : goal.loop-axis-init
loop-axis-init c =
    let none = last_axes c.args.number c.args.shape.now c.args.sub.now c.requires.divides in
    record {
      rest_is = none.rest_is;
      subchunks_is = none.subchunks_is;
      subchunk_is = none.subchunk_is;
      positions_is = none.positions_is;
      position_is = none.position_is;
    }

pub nonzero_rem-index : goal.nonzero_rem-index
nonzero_rem-index c = axis_positive c.args.number c.args.shape.now (c.loop-axis.axis - 1) c.requires.inside (omega arith)

pub nonzero_div-rest : goal.nonzero_div-rest
nonzero_div-rest c = axis_positive c.args.number c.args.shape.now (c.loop-axis.axis - 1) c.requires.inside (omega arith)

pub bounds-sub-axis : goal.bounds-sub-axis
bounds-sub-axis c = omega (arith, same_axes c.args.shape.now c.args.sub.now c.requires.divides)

pub bounds-sub-axis-in-loop-axis : goal.bounds-sub-axis-in-loop-axis
bounds-sub-axis-in-loop-axis c = omega (arith, same_axes c.args.shape.now c.args.sub.now c.requires.divides)

pub bounds-sub-axis-in-loop-axis-2 : goal.bounds-sub-axis-in-loop-axis-2
bounds-sub-axis-in-loop-axis-2 c = omega (arith, same_axes c.args.shape.now c.args.sub.now c.requires.divides)

pub bounds-sub-axis-in-loop-axis-3 : goal.bounds-sub-axis-in-loop-axis-3
bounds-sub-axis-in-loop-axis-3 c = omega (arith, same_axes c.args.shape.now c.args.sub.now c.requires.divides)

pub nonzero_div-subchunk : goal.nonzero_div-subchunk
nonzero_div-subchunk c = c.requires.sub (c.loop-axis.axis - 1) 0 (omega (arith, same_axes c.args.shape.now c.args.sub.now c.requires.divides))

pub nonzero_div-subchunks : goal.nonzero_div-subchunks
nonzero_div-subchunks c = c.requires.sub (c.loop-axis.axis - 1) 0 (omega (arith, same_axes c.args.shape.now c.args.sub.now c.requires.divides))

pub nonzero_rem-position : goal.nonzero_rem-position
nonzero_rem-position c = c.requires.sub (c.loop-axis.axis - 1) 0 (omega (arith, same_axes c.args.shape.now c.args.sub.now c.requires.divides))

pub overflow_mul-subchunk : goal.overflow_mul-subchunk
overflow_mul-subchunk c =
    let step = subchunk_step c.args.number c.args.shape.now c.args.sub.now c.requires.inside c.requires.fits c.requires.divides (c.loop-axis.axis - 1) c.loop-axis.axis c.loop-axis.rest (omega arith) (omega arith) c.loop-axis.invariant.rest_is c.loop-axis.subchunks c.loop-axis.subchunk c.loop-axis.invariant.subchunks_is c.loop-axis.invariant.subchunk_is in
    omega (arith, step.number_fits)

pub overflow_add-subchunk : goal.overflow_add-subchunk
overflow_add-subchunk c =
    let step = subchunk_step c.args.number c.args.shape.now c.args.sub.now c.requires.inside c.requires.fits c.requires.divides (c.loop-axis.axis - 1) c.loop-axis.axis c.loop-axis.rest (omega arith) (omega arith) c.loop-axis.invariant.rest_is c.loop-axis.subchunks c.loop-axis.subchunk c.loop-axis.invariant.subchunks_is c.loop-axis.invariant.subchunk_is in
    omega (arith, step.number_fits)

pub overflow_mul-subchunks : goal.overflow_mul-subchunks
overflow_mul-subchunks c =
    let step = subchunk_step c.args.number c.args.shape.now c.args.sub.now c.requires.inside c.requires.fits c.requires.divides (c.loop-axis.axis - 1) c.loop-axis.axis c.loop-axis.rest (omega arith) (omega arith) c.loop-axis.invariant.rest_is c.loop-axis.subchunks c.loop-axis.subchunk c.loop-axis.invariant.subchunks_is c.loop-axis.invariant.subchunk_is in
    omega (arith, ap (λ n. c.loop-axis.subchunks * n) (get_or-grid c.args.shape.now c.args.sub.now (c.loop-axis.axis - 1) c.requires.divides (omega arith)), step.stride_fits)

pub overflow_mul-position : goal.overflow_mul-position
overflow_mul-position c =
    let step = position_step c.args.number c.args.shape.now c.args.sub.now c.requires.inside c.requires.fits c.requires.divides (c.loop-axis.axis - 1) c.loop-axis.axis c.loop-axis.rest (omega arith) (omega arith) c.loop-axis.invariant.rest_is c.loop-axis.positions c.loop-axis.position c.loop-axis.invariant.positions_is c.loop-axis.invariant.position_is in
    omega (arith, step.number_fits)

pub overflow_add-position : goal.overflow_add-position
overflow_add-position c =
    let step = position_step c.args.number c.args.shape.now c.args.sub.now c.requires.inside c.requires.fits c.requires.divides (c.loop-axis.axis - 1) c.loop-axis.axis c.loop-axis.rest (omega arith) (omega arith) c.loop-axis.invariant.rest_is c.loop-axis.positions c.loop-axis.position c.loop-axis.invariant.positions_is c.loop-axis.invariant.position_is in
    omega (arith, step.number_fits)

pub overflow_mul-positions : goal.overflow_mul-positions
overflow_mul-positions c =
    let step = position_step c.args.number c.args.shape.now c.args.sub.now c.requires.inside c.requires.fits c.requires.divides (c.loop-axis.axis - 1) c.loop-axis.axis c.loop-axis.rest (omega arith) (omega arith) c.loop-axis.invariant.rest_is c.loop-axis.positions c.loop-axis.position c.loop-axis.invariant.positions_is c.loop-axis.invariant.position_is in
    omega (arith, step.stride_fits)

pub loop-axis-preserved : goal.loop-axis-preserved
loop-axis-preserved c =
    let subchunk = subchunk_step c.args.number c.args.shape.now c.args.sub.now c.requires.inside c.requires.fits c.requires.divides (c.loop-axis.axis - 1) c.loop-axis.axis c.loop-axis.rest (omega arith) (omega arith) c.loop-axis.invariant.rest_is c.loop-axis.subchunks c.loop-axis.subchunk c.loop-axis.invariant.subchunks_is c.loop-axis.invariant.subchunk_is in
    let position = position_step c.args.number c.args.shape.now c.args.sub.now c.requires.inside c.requires.fits c.requires.divides (c.loop-axis.axis - 1) c.loop-axis.axis c.loop-axis.rest (omega arith) (omega arith) c.loop-axis.invariant.rest_is c.loop-axis.positions c.loop-axis.position c.loop-axis.invariant.positions_is c.loop-axis.invariant.position_is in
    record {
      rest_is = rest_more c.args.number c.args.shape.now (c.loop-axis.axis - 1) c.loop-axis.axis c.loop-axis.rest (omega arith) (omega arith) c.loop-axis.invariant.rest_is;
      subchunks_is = rw (get_or-grid c.args.shape.now c.args.sub.now (c.loop-axis.axis - 1) c.requires.divides (omega arith)) at subchunk.stride_more;
      subchunk_is = subchunk.number_more;
      positions_is = position.stride_more;
      position_is = position.number_more;
    }

pub returns-clause-subchunk : goal.returns-clause-subchunk
returns-clause-subchunk c = all_subchunk c.args.number c.args.shape.now c.args.sub.now c.loop-axis.axis c.loop-axis.subchunk (omega arith) c.loop-axis.invariant.subchunk_is

pub returns-clause-position : goal.returns-clause-position
returns-clause-position c = all_position c.args.number c.args.shape.now c.args.sub.now c.loop-axis.axis c.loop-axis.position (omega arith) c.loop-axis.invariant.position_is
