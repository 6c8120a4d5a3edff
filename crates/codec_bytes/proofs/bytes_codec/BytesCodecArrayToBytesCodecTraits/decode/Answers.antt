use Rattle.std.proofs.Common.{◌∙◌, refl, sym}
use Rattle.parts_arrays.specs.ArraySpec.{array_spec}
use Rattle.codec_bytes.specs.BytesCodecLaws.{bytes_damaged}
use Rattle.codec_bytes.proofs.BytesCodecSteps.{whole_elements, IsDecoded, decoded}
use Rattle.codec_bytes.proofs.bytes_codec.BytesCodecArrayToBytesCodecTraits.decode.Goals as goal
use Rattle.codec_bytes.proofs.bytes_codec.BytesCodecArrayToBytesCodecTraits.decode.Goals.{In_ok-array}

pub returns-then-bytes-total-clause-lawful : goal.returns-then-bytes-total-clause-lawful
returns-then-bytes-total-clause-lawful c =
    let m = c.in_ok-size.ensures.measured in
    λ s. bytes_damaged c.args.self.now (array_spec c.args.shape.now c.args.data_type.now c.args.fill_value.now) c.args.bytes.now m.some (λ h. c.if-bytes-total.true (h ∙ sym m.total_is))

pub array_of_bytes-requires : goal.array_of_bytes-requires
array_of_bytes-requires c =
    whole_elements c.args.self.now (array_spec c.args.shape.now c.args.data_type.now c.args.fill_value.now) _ _ _ _ c.args.bytes.now c.in_ok-size.ensures.measured c.if-bytes-total.false

is_decoded : (c : In_ok-array) → IsDecoded c.args.self.now (array_spec c.args.shape.now c.args.data_type.now c.args.fill_value.now) c.args.bytes.now c.in_ok-array.array
is_decoded c =
    decoded c.args.self.now (array_spec c.args.shape.now c.args.data_type.now c.args.fill_value.now) _ _ _ _ c.args.bytes.now _ c.in_ok-array.array
    c.in_ok-size.ensures.measured c.if-bytes-total.false refl c.in_ok-array.ensures

pub returns-clause-array : goal.returns-clause-array
returns-clause-array c = let d = is_decoded c in (d.kind, d.is_array)

pub returns-clause-cells : goal.returns-clause-cells
returns-clause-cells c = (is_decoded c).cells
