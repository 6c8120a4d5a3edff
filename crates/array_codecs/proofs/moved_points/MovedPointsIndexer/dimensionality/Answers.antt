use Rattle.std.proofs.Common.{◌<◌, ◌∙◌, [], length, ap, arith}
use Rattle.std.proofs.lemmas.List.FromFn.{length-map-range_with_len, get_or-map-range_with_len}
use Rattle.parts_row_major.specs.Numbering.{count_of, point_of}
use Rattle.array_codecs.specs.AxisOrders.{permuted}
use Rattle.array_codecs.specs.AxisOrderLaws.{length-permuted}
use Rattle.array_codecs.proofs.moved_points.MovedPointsIndexer.dimensionality.Goals as goal

pub returns-clause-each : goal.returns-clause-each
returns-clause-each c i lt =
    let points = c.args.self.now in
    let shape = points.shape.now in
    let order = points.order.now in
    let below : i < count_of shape = omega (arith, length-map-range_with_len (λ k. permuted order (point_of k shape)) 0 (count_of shape), lt) in
    ap length (get_or-map-range_with_len (λ k. permuted order (point_of k shape)) 0 (count_of shape) i i [] below (omega arith))
    ∙ length-permuted order (point_of i shape)
