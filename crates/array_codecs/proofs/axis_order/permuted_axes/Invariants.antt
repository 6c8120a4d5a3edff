use Rattle.std.proofs.Common.{◌≡◌, take}
use Rattle.array_codecs.specs.AxisOrders.{permuted}
use Rattle.array_codecs.proofs.axis_order.permuted_axes.Given as goal

-- the numbers of the axes up to here
abbrev pub invariant-loop-place : goal.invariant-loop-place
invariant-loop-place l = l.axes.items ≡ permuted (take l.place l.order) l.numbers
