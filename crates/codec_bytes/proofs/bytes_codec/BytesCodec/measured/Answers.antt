use Rattle.std.proofs.Common.{◌≡◌}
use Rattle.parts_arrays.specs.ArraySpec.{array_spec}
use Rattle.parts_arrays.specs.Types.{size_of}
use Rattle.parts_arrays.specs.declared.data_type.DataTypeSize.TheVariants.{Fixed}
use Rattle.codec_bytes.proofs.BytesCodecSteps.{measured}
use Rattle.codec_bytes.proofs.bytes_codec.BytesCodec.measured.Goals as goal

pub returns-clause-measured : goal.returns-clause-measured
returns-clause-measured c =
    let kind : size_of c.args.data_type.now ≡ Fixed c.in-Fixed.size = cc in
    let known = c.in-Some.ensures in
    let times = c.in-Some-checked_mul.ensures in
    measured c.args.self.now (array_spec c.args.shape.now c.args.data_type.now c.args.fill_value.now) c.in-Fixed.size c.in-Some-num_elements.count _ _ kind c.if-size-eq0.false
    known.known known.swaps (cc) c.num_elements.ensures.positive c.in-Some-num_elements.ensures.value.1 times.0 times.1
