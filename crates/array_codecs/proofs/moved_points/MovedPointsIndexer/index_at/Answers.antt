use Rattle.std.proofs.Common.{◌<◌, ◌∙◌, [], get_or, sym, ap, arith}
use Rattle.std.proofs.lemmas.List.FromFn.{length-map-range_with_len, get_or-map-range_with_len}
use Rattle.parts_row_major.specs.Numbering.{count_of, point_of}
use Rattle.array_codecs.specs.AxisOrders.{permuted}
use Rattle.array_codecs.specs.AxisOrderLaws.{permuted_at}
use Rattle.array_codecs.proofs.moved_points.MovedPointsIndexer.index_at.Goals as goal

pub number_along-requires-clause-inside : goal.number_along-requires-clause-inside
number_along-requires-clause-inside c =
    let points = c.args.self.now in
    omega (arith, length-map-range_with_len (λ k. permuted points.order.now (point_of k points.shape.now)) 0 (count_of points.shape.now), c.requires.position)

pub returns : goal.returns
returns c =
    let points = c.args.self.now in
    let shape = points.shape.now in
    let order = points.order.now in
    let below : c.args.i < count_of shape =
    omega (arith, length-map-range_with_len (λ k. permuted order (point_of k shape)) 0 (count_of shape), c.requires.position) in
    let point = get_or-map-range_with_len (λ k. permuted order (point_of k shape)) 0 (count_of shape) c.args.i c.args.i [] below (omega arith) in
    c.number_along.ensures ∙ (sym (permuted_at order (point_of c.args.i shape) c.args.axis c.requires.axis) ∙ ap (λ xs. get_or xs c.args.axis 0) (sym point))
