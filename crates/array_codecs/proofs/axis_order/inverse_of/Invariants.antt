use Rattle.std.proofs.Common.{◌≡◌, map}
use Rattle.std.specs.List.{range_with_len}
use Rattle.array_codecs.specs.AxisOrders.{place_of}
use Rattle.array_codecs.proofs.axis_order.inverse_of.Given as goal

-- the places of the axes up to here
abbrev pub invariant-loop-axis : goal.invariant-loop-axis
invariant-loop-axis l = l.inverse.items ≡ map (place_of l.order) (range_with_len 0 l.axis)
