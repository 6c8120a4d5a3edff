use Rattle.std.proofs.Common.{◌≡◌, ◌∙◌, sym}
use Rattle.parts_arrays.specs.ArraySpec.{array_spec}
use Rattle.codec_traits.specs.RefusalLaws.{passed_on}
use Rattle.array_codecs.specs.AxisOrders.{inverse_of}
use Rattle.array_codecs.specs.AxisOrderLaws.{inverse_undone, order_undone, length-inverse_of, length-permuted, permuted_back}
use Rattle.array_codecs.specs.TransposeCodec.{transposed_spec, encoded_elements}
use Rattle.array_codecs.specs.TransposeLaws.{encoded_array}
use Rattle.array_codecs.proofs.TransposeSteps.{refused_encoding}
use Rattle.array_codecs.proofs.transpose_codec.TransposeCodecArrayToBytesCodecTraits.encode.Goals as goal

pub moved_elements-requires-clause-undone : goal.moved_elements-requires-clause-undone
moved_elements-requires-clause-undone g c =
    rw (c.as_slice-order.ensures.value, c.inverse-inverse.ensures.value) (inverse_undone c.args.self.now.order c.as_slice-order.ensures.permutation)

pub moved_elements-requires-clause-undoes : goal.moved_elements-requires-clause-undoes
moved_elements-requires-clause-undoes g c =
    rw (c.as_slice-order.ensures.value, c.inverse-inverse.ensures.value) (order_undone c.args.self.now.order c.as_slice-order.ensures.permutation)

pub moved_elements-requires-clause-axes : goal.moved_elements-requires-clause-axes
moved_elements-requires-clause-axes g c =
    let order = c.args.self.now.order in
    rw (c.in_ok-inner_shape.ensures.shape, c.inverse-inverse.ensures.value) (length-permuted order c.args.shape.now ∙ sym (length-inverse_of order))

pub moved_elements-requires-clause-shape : goal.moved_elements-requires-clause-shape
moved_elements-requires-clause-shape g c =
    let order = c.args.self.now.order in
    rw (c.in_ok-inner_shape.ensures.shape, c.inverse-inverse.ensures.value)
    (sym (permuted_back order (inverse_of order) c.args.shape.now (inverse_undone order c.inverse-inverse.ensures.permutation) c.in_ok-inner_shape.ensures.axes))

pub returns-in_err-encoded-clause-lawful : goal.returns-in_err-encoded-clause-lawful
returns-in_err-encoded-clause-lawful g c =
    let a = c.args in
    let order = a.self.now.order in
    let spec = array_spec a.shape.now a.data_type.now a.fill_value.now in
    let m = g.C.ArrayToBytesCodecTraits.meaning a.self.now.codec (transposed_spec order spec) in
    let e = c.in_err-encoded.field-0.0 in
    let inner : c.in_ok-inner.inner ≡ record { kind = a.bytes.now.kind; elements = encoded_elements order spec a.bytes.now.elements } =
    rw (sym c.in_ok-inner_shape.ensures.shape, sym c.inverse-inverse.ensures.value) c.in_ok-inner.ensures.moved in
    let lawful = rw (c.in_ok-inner_shape.ensures.shape, inner) at c.in_err-encoded.ensures.lawful in
    passed_on c.from_residual-in_err-encoded.result e _ c.from_residual-in_err-encoded.ensures.1 (λ s kind array.
    refused_encoding order m spec a.bytes.now.elements e (lawful s.inner kind (encoded_array order m spec a.bytes.now.elements s.permutation s.axes array)))
