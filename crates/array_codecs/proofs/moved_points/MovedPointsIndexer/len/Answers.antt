use Rattle.std.proofs.Common.{arith}
use Rattle.std.proofs.lemmas.List.FromFn.{length-map-range_with_len}
use Rattle.parts_row_major.specs.Numbering.{count_of, point_of}
use Rattle.array_codecs.specs.AxisOrders.{permuted}
use Rattle.array_codecs.proofs.moved_points.MovedPointsIndexer.len.Goals as goal

pub returns-clause-value : goal.returns-clause-value
returns-clause-value c =
    let points = c.args.self.now in
    rw (length-map-range_with_len (λ k. permuted points.order.now (point_of k points.shape.now)) 0 (count_of points.shape.now))
    (omega (arith, points.counted), points.counted)
