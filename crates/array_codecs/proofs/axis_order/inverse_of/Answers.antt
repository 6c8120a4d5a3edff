use Rattle.std.proofs.Common.{arith}
use Rattle.std.proofs.lemmas.List.FromFn.{map-range_with_len_more}
use Rattle.array_codecs.specs.AxisOrders.{place_of}
use Rattle.array_codecs.proofs.axis_order.inverse_of.Goals as goal

pub loop-axis-preserved : goal.loop-axis-preserved
loop-axis-preserved c =
    let more = map-range_with_len_more (place_of c.args.order.now) 0 c.loop-axis.axis c.loop-axis.axis (omega arith) in
    grind (arith, more)
