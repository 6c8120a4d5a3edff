use Rattle.parts_arrays.specs.ArraySpec.{array_spec}
use Rattle.codec_traits.specs.RefusalLaws.{passed_on}
use Rattle.codec_vlen.proofs.VlenSteps.{text_array, refused_text}
use Rattle.codec_vlen.proofs.vlen_codec.VlenCodecArrayToBytesCodecTraits.decode.Goals as goal

pub returns-in_err-array-clause-lawful : goal.returns-in_err-array-clause-lawful
returns-in_err-array-clause-lawful c =
    let a = c.args in
    let e = c.in_err-array.field-0.0 in
    passed_on c.from_residual-in_err-array.result e _ c.from_residual-in_err-array.ensures.1 (λ s.
    refused_text (array_spec a.shape.now a.data_type.now a.fill_value.now) a.bytes.now c.in_ok-count.count e c.in_ok-count.ensures.some c.in_ok-count.ensures.count c.in_err-array.ensures.refused)

pub returns-clause-array : goal.returns-clause-array
returns-clause-array c =
    let a = c.args in
    let array = text_array (array_spec a.shape.now a.data_type.now a.fill_value.now) a.bytes.now c.in_ok-array.array c.in_ok-count.count c.in_ok-count.ensures.serves c.in_ok-count.ensures.count
    c.in_ok-array.ensures.kind c.in_ok-array.ensures.elements in
    (array.kind, array.is_array)

pub returns-clause-cells : goal.returns-clause-cells
returns-clause-cells c =
    let a = c.args in
    (text_array (array_spec a.shape.now a.data_type.now a.fill_value.now) a.bytes.now c.in_ok-array.array c.in_ok-count.count c.in_ok-count.ensures.serves c.in_ok-count.ensures.count
    c.in_ok-array.ensures.kind c.in_ok-array.ensures.elements).cells
