use Rattle.std.proofs.Common.{◌<◌, get_or, length, arith}
use Rattle.array_codecs.specs.AxisOrderLaws.{order_undone}
use Rattle.array_codecs.proofs.axis_order.permuted_axes.Goals as goal

pub bounds-numbers-axis : goal.bounds-numbers-axis
bounds-numbers-axis c =
    let below : get_or c.args.order.now c.loop-place.place 0 < length c.args.order.now =
    (order_undone c.args.order.now c.requires.permutation).within c.loop-place.place (omega arith) in
    omega (arith, below, c.requires.axes)

pub offset_bounds-numbers-axis : goal.offset_bounds-numbers-axis
offset_bounds-numbers-axis c =
    omega (arith, (order_undone c.args.order.now c.requires.permutation).within c.loop-place.place (omega arith))
