use Rattle.std.proofs.Common.{◌≡◌, ◌<◌, ◌∙◌, map, refl, sym, rules}
use Rattle.std.specs.List.{concat}
use Rattle.parts_arrays.specs.Arrays.{fixed_array}
use Rattle.codec_bytes.specs.BytesCodec.{swapped}
use Rattle.parts_arrays.specs.ArraySpec.{array_spec}
use Rattle.parts_arrays.specs.declared.data_type.DataTypeSize.TheVariants.{Fixed}
use Rattle.parts_arrays.proofs.ArrayLaws.{whole-concat}
use Rattle.codec_bytes.proofs.BytesCodecSteps.{is_array, encoded}
use Rattle.codec_bytes.proofs.bytes_codec.BytesCodecArrayToBytesCodecTraits.encode_onto.Goals as goal

pub append-requires : goal.append-requires
append-requires c =
    let m = c.in_ok-size.ensures.measured in
    let some : 0 < c.in_ok-size.field-0.size = rw m.size_is m.serves.supported.positive in
    let kind : c.args.bytes.now.kind ≡ Fixed c.in_ok-size.field-0.size = search rules in
    rw c.in-Some.ensures.some (whole-concat c.in_ok-size.field-0.size c.args.bytes.now.elements some (rw kind at c.kind.ensures.fitting))

pub returns-clause-written : goal.returns-clause-written
returns-clause-written c =
    let m = c.in_ok-size.ensures.measured in
    let g = array_spec c.args.shape.now c.args.data_type.now c.args.fill_value.now in
    let kind : c.args.bytes.now.kind ≡ Fixed c.in_ok-size.field-0.size = search rules in
    let array = is_array c.args.self.now g _ _ _ _ c.args.bytes.now m kind c.kind.ensures.fitting (sym c.len.ensures ∙ c.if-len-count.false) in
    let size = c.in_ok-size.field-0.size in
    let stored = concat (map (swapped c.in_ok-size.field-0.reversed) (fixed_array size c.in-Some.elements.now).elements) in
    record {
      encoding = stored;
      is_encoding = encoded c.args.self.now g _ _ _ _ c.args.bytes.now c.in-Some.elements.now stored m array.1 c.in-Some.ensures.some refl;
      appended = c.in_ok-append.ensures.appended;
    }
