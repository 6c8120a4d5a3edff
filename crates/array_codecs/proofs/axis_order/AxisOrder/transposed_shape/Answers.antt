use Rattle.array_codecs.specs.AxisOrders.{inverse_of}
use Rattle.array_codecs.specs.AxisOrderLaws.{order_undone}
use Rattle.array_codecs.proofs.AxisOrderSteps.{permuted_positive}
use Rattle.array_codecs.proofs.axis_order.AxisOrder.transposed_shape.Goals as goal

pub from_positive-requires : goal.from_positive-requires
from_positive-requires c =
    let a = c.args in
    let order = a.self.now in
    rw (c.in_ok-axes.ensures, c.as_slice-order.ensures.value, c.as_slice-numbers.ensures.value)
    (permuted_positive order (inverse_of order) a.shape.now (order_undone order c.as_slice-order.ensures.permutation) c.requires c.as_slice-numbers.ensures.positive)
