-- A codec that is not looked into.
use Rattle.std.specs.Prelude.{⊤, Some, None}
use Rattle.parts_errors.specs.Order.{◌or◌then◌, done}
use Rattle.parts_errors.specs.Words.{Refusals}
use Rattle.parts_errors.specs.declared.error.CodecError.TheVariants.{CannotEncode, Damaged}
use Rattle.parts_row_major.specs.Numbering.{count_of}
use Rattle.parts_arrays.specs.ArraySpec.{ArraySpec}
use Rattle.codec_traits.specs.Meanings.{Meaning}
use Rattle.codec_traits.specs.WholeArrays.{whole_cells}
use Rattle.codec_traits.specs.declared.representation.BytesRepresentation.TheVariants.{UnboundedSize}

-- whatever is there is damaged
abbrev pub OpaqueRefusals : Refusals
OpaqueRefusals = ⊥ or Damaged then done

-- what the codec means: it serves each array, no array has an encoding, and bytes stand for no cell
abbrev pub opaque_meaning : ArraySpec → Meaning
opaque_meaning g = record {
  serves = ⊤;
  cells = λ b. whole_cells (count_of g.shape) None;
  written = λ elements b. ⊥;
  encodable = λ elements. ⊥;
  fits = λ elements. ⊤;
  representation = Some UnboundedSize;
  check_refusals = done;
  encode_refusals = λ array. ⊥ or CannotEncode then done;
  decode_refusals = λ b. OpaqueRefusals;
  compacted = λ old new. ⊥;
  compact_refusals = λ b. done;
  answerable = λ n. ⊤;
  read_refusals = λ b points. OpaqueRefusals;
}
