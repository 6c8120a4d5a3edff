use Rattle.std.proofs.Common.{◌≡◌, ◌∙◌, None, length, ap, refl, arith}
use Rattle.parts_row_major.specs.Numbering.{count_of}
use Rattle.parts_arrays.specs.ArraySpec.{array_spec, IsArrayOf}
use Rattle.codec_traits.specs.RefusalLaws.{passed_on}
use Rattle.array_codecs.specs.AxisOrders.{permuted, transposed}
use Rattle.array_codecs.specs.AxisOrderLaws.{inverse_undone, order_permutation, order_undone, count_permuted, transposed_there}
use Rattle.array_codecs.specs.TransposeCodec.{transposed_spec}
use Rattle.array_codecs.specs.TransposeLaws.{transposed_array}
use Rattle.array_codecs.proofs.TransposeSteps.{refused_transposed}
use Rattle.array_codecs.proofs.transpose_codec.TransposeCodec.decode_served.Goals as goal

pub moved_elements-requires-clause-undone : goal.moved_elements-requires-clause-undone
moved_elements-requires-clause-undone g c =
    rw (c.as_slice-order.ensures.value, c.inverse-inverse.ensures.value) (order_undone c.args.self.now.order c.as_slice-order.ensures.permutation)

pub moved_elements-requires-clause-undoes : goal.moved_elements-requires-clause-undoes
moved_elements-requires-clause-undoes g c =
    rw (c.as_slice-order.ensures.value, c.inverse-inverse.ensures.value) (inverse_undone c.args.self.now.order c.as_slice-order.ensures.permutation)

pub returns-in_err-inner-clause-lawful : goal.returns-in_err-inner-clause-lawful
returns-in_err-inner-clause-lawful g c =
    let a = c.args in
    let order = a.self.now.order in
    let inner_spec = transposed_spec order (array_spec a.shape.now a.data_type.now a.fill_value.now) in
    let m = g.C.ArrayToBytesCodecTraits.meaning a.self.now.codec inner_spec in
    let law = g.met.C.ArrayToBytesCodecTraits.lawful a.self.now.codec inner_spec in
    let e = c.in_err-inner.field-0.0 in
    let lawful = rw c.in_ok-inner_shape.ensures.shape at c.in_err-inner.ensures.lawful in
    passed_on c.from_residual-in_err-inner.result e _ c.from_residual-in_err-inner.ensures.1
    (refused_transposed order a.shape.now (m.cells a.bytes.now) (order_permutation order c.as_slice-order.ensures.permutation) c.requires.axes
    (law.cells_counted a.bytes.now c.requires.serves) e (lawful c.requires.serves))

pub returns-clause-array : goal.returns-clause-array
returns-clause-array g c =
    let a = c.args in
    let order = a.self.now.order in
    let outer_spec = array_spec a.shape.now a.data_type.now a.fill_value.now in
    let inner = rw c.in_ok-inner_shape.ensures.shape at c.in_ok-inner.ensures.array in
    rw (c.in_ok-array.ensures.moved, c.as_slice-order.ensures.value)
    (transposed_array order a.shape.now (transposed_spec order outer_spec) outer_spec c.in_ok-inner.inner.elements
    (order_permutation order c.as_slice-order.ensures.permutation) c.requires.axes refl refl refl inner.1)

pub returns-clause-valid : goal.returns-clause-valid
returns-clause-valid g c =
    let a = c.args in
    let array : IsArrayOf (array_spec a.shape.now a.data_type.now a.fill_value.now) c.in_ok-array.array.elements = returns-clause-array g c in
    record {
      supported = λ none. c.kind-kind.ensures.sized (c.in_ok-inner.ensures.array.0 ∙ none);
      kind = rw c.in_ok-array.ensures.moved c.in_ok-inner.ensures.array.0;
      counted = array.counted;
    }

pub returns-clause-fits : goal.returns-clause-fits
returns-clause-fits g c =
    let a = c.args in
    let order = a.self.now.order in
    let permutation = order_permutation order c.as_slice-order.ensures.permutation in
    let inner = rw c.in_ok-inner_shape.ensures.shape at c.in_ok-inner.ensures.array in
    let many : length c.in_ok-inner.inner.elements ≡ count_of (permuted order a.shape.now) = inner.1.counted in
    let same : count_of (permuted order a.shape.now) ≡ count_of a.shape.now =
    count_permuted order permutation.inverse a.shape.now permutation.undone permutation.undoes c.requires.axes in
    omega (arith, c.len-count.ensures, many, same)

pub returns-clause-cells : goal.returns-clause-cells
returns-clause-cells g c =
    let a = c.args in
    let order = a.self.now.order in
    let permutation = order_permutation order c.as_slice-order.ensures.permutation in
    let inner = rw c.in_ok-inner_shape.ensures.shape at c.in_ok-inner.ensures.array in
    let cells = rw c.in_ok-inner_shape.ensures.shape at c.in_ok-inner.ensures.cells in
    let there = transposed_there order permutation.inverse a.shape.now c.in_ok-inner.inner.elements permutation.undone c.requires.axes inner.1.counted in
    rw (c.in_ok-array.ensures.moved, c.as_slice-order.ensures.value) (ap (transposed order a.shape.now None) cells ∙ there)
