use Rattle.parts_arrays.specs.ArraySpec.{array_spec}
use Rattle.codec_bytes.proofs.BytesCodecSteps.{plain}
use Rattle.codec_bytes.proofs.bytes_codec.BytesCodecArrayToBytesCodecTraits.plain_size.Goals as goal

pub returns-in-Ok : goal.returns-in-Ok
returns-in-Ok c =
    plain c.args.self.now (array_spec c.args.shape.now c.args.data_type.now c.args.fill_value.now) _ _ _ _ c.in-Ok.ensures.measured c.if-not-reversed.true
