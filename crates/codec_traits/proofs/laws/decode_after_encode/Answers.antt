use Rattle.parts_arrays.specs.ArraySpec.{array_spec}
use Rattle.parts_arrays.specs.Types.{size_of}
use Rattle.codec_traits.proofs.CodecLaws.{same_array, refused_by_decode, refused_so, answered_so}
use Rattle.codec_traits.proofs.laws.decode_after_encode.Goals as goal

pub returns-clause-same : goal.returns-clause-same
returns-clause-same g c =
    let arrays = array_spec c.args.shape.now c.args.data_type.now c.args.fill_value.now in
    let law = g.met.C.ArrayToBytesCodecTraits.lawful c.args.codec.now arrays in
    answered_so _ _ _ c.decode.result c.decode.ensures.array c.decode.ensures.cells
    (λ decoded array cells. same_array decoded c.args._array.now (size_of c.args.data_type.now) _ array.0 c.requires.kind cells
    (law.written_cells c.args._array.now.elements c.args.encoded.now c.requires.serves c.requires.array c.requires.written))

pub returns-clause-lawful : goal.returns-clause-lawful
returns-clause-lawful g c =
    let arrays = array_spec c.args.shape.now c.args.data_type.now c.args.fill_value.now in
    let law = g.met.C.ArrayToBytesCodecTraits.lawful c.args.codec.now arrays in
    refused_so _ _ c.decode.result c.decode.ensures.lawful
    (λ e may. refused_by_decode c.args._array.now.elements _ e
    (law.written_cells c.args._array.now.elements c.args.encoded.now c.requires.serves c.requires.array c.requires.written) (may c.requires.serves))
