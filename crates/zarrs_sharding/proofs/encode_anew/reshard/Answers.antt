use Rattle.parts_arrays.specs.ArraySpec.{array_spec}
use Rattle.codec_traits.proofs.CodecLaws.{refused_so}
use Rattle.zarrs_sharding.proofs.ReshardLemmas.{encode_refused, encode_may_refuse}
use Rattle.zarrs_sharding.proofs.encode_anew.reshard.Goals as goal

pub returns-clause-lawful : goal.returns-clause-lawful
returns-clause-lawful g c =
    let arrays = array_spec c.args.shape.now c.args.data_type.now c.args.fill_value.now in
    let from = g.C.ArrayToBytesCodecTraits.meaning c.args.from.now arrays in
    let to = g.D.ArrayToBytesCodecTraits.meaning c.args.to.now arrays in
    let array = c.in_ok-array.array in
    let decoded = c.in_ok-array.ensures in
    refused_so _ _ c.encode.result c.encode.ensures.lawful
    (λ e may serves served. encode_may_refuse arrays from to c.args.encoded.now array e decoded.cells (may served decoded.array.0 decoded.array.1))

pub returns-clause-refused : goal.returns-clause-refused
returns-clause-refused g c =
    let arrays = array_spec c.args.shape.now c.args.data_type.now c.args.fill_value.now in
    let from = g.C.ArrayToBytesCodecTraits.meaning c.args.from.now arrays in
    let to = g.D.ArrayToBytesCodecTraits.meaning c.args.to.now arrays in
    let array = c.in_ok-array.array in
    let decoded = c.in_ok-array.ensures in
    refused_so _ _ c.encode.result c.encode.ensures.refused
    (λ e tested. encode_refused arrays from to c.args.encoded.now array e decoded.array.0 decoded.cells decoded.serves tested)
