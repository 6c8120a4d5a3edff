use Rattle.std.proofs.Common.{◌-◌, arith}
use Rattle.parts_row_major.proofs.RunLaws.{tail_step}
use Rattle.parts_subsets.proofs.rows.past_ones.Goals as goal

pub overflow_mul-points : goal.overflow_mul-points
overflow_mul-points c =
    let le = tail_step c.args.len.now (c.loop-axis.axis - 1) c.loop-axis.axis c.loop-axis.points (omega arith) (omega arith) c.loop-axis.invariant.points_are c.requires.some in
    omega (arith, le)

pub overflow_mul-stride : goal.overflow_mul-stride
overflow_mul-stride c =
    let le = tail_step c.args.shape.now (c.loop-axis.axis - 1) c.loop-axis.axis c.loop-axis.stride (omega arith) (omega arith) c.loop-axis.invariant.stride_is c.requires.some_around in
    omega (arith, le)
