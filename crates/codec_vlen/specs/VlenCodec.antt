-- What the codec for elements that have lengths of their own means.
use Rattle.std.specs.Prelude.{◌≡◌, ◌<◌, ◌^◌, ⊤, Some, length}
use Rattle.parts_errors.specs.Words.{Bytes, Elements, CellList, Refusals}
use Rattle.parts_errors.specs.Order.{◌or◌then◌, done}
use Rattle.parts_errors.specs.declared.error.CodecError.TheVariants.{UnsupportedDataType, TooLarge, WrongElementKind, InvalidNumberOfElements, CannotEncode}
use Rattle.parts_row_major.specs.Numbering.{count_of}
use Rattle.parts_arrays.specs.ArraySpec.{ArraySpec}
use Rattle.parts_arrays.specs.Types.{size_of}
use Rattle.parts_arrays.specs.Arrays.{Array}
use Rattle.parts_arrays.specs.declared.data_type.DataTypeSize.TheVariants.{Variable}
use Rattle.codec_traits.specs.Meanings.{Meaning}
use Rattle.codec_traits.specs.declared.representation.BytesRepresentation.TheVariants.{UnboundedSize}
use Rattle.codec_traits.specs.WholeArrays.{whole_cells, WholeRefusals}
use Rattle.codec_vlen.specs.Text.{vlen_text, HasText, vlen_elements}

-- the arrays that the codec serves: those of elements that have lengths of their own
pub record VlenServes (g : ArraySpec) : Type 0 where
  pub variable : size_of g.data_type ≡ Variable
  pub counted : count_of g.shape < 2 ^ 64

-- the bytes are the encoding of the elements
pub record IsTextOf (elements : Elements) (b : Bytes) : Type 0 where
  pub has_text : HasText elements
  pub text : b ≡ vlen_text elements

-- the cells of an encoding: all are there, or none where it is no text of as many elements as the shape has
unfoldable pub vlen_cells : ArraySpec → Bytes → CellList
vlen_cells g b = whole_cells (count_of g.shape) (vlen_elements (count_of g.shape) b)

-- the tests of `check`, in their order
abbrev pub VlenCheckRefusals : ArraySpec → Refusals
VlenCheckRefusals g =
    size_of g.data_type ≡ Variable or UnsupportedDataType then
    count_of g.shape < 2 ^ 64 or TooLarge then
    done

-- the tests of `encode` after those of `check`
abbrev pub VlenEncodeRefusals : ArraySpec → Array → Refusals
VlenEncodeRefusals g array =
    array.kind ≡ size_of g.data_type or WrongElementKind then
    length array.elements ≡ count_of g.shape or InvalidNumberOfElements then
    HasText array.elements or CannotEncode then
    length (vlen_text array.elements) < 2 ^ 64 or TooLarge then
    done

-- the tests of `decode` after those of `check`
abbrev pub VlenDecodeRefusals : ArraySpec → Bytes → Refusals
VlenDecodeRefusals g b = WholeRefusals (vlen_elements (count_of g.shape) b)

-- what the codec means
abbrev pub vlen_meaning : ArraySpec → Meaning
vlen_meaning g = record {
  serves = VlenServes g;
  cells = vlen_cells g;
  written = IsTextOf;
  encodable = HasText;
  fits = λ elements. length (vlen_text elements) < 2 ^ 64;
  representation = Some UnboundedSize;
  check_refusals = VlenCheckRefusals g;
  encode_refusals = VlenEncodeRefusals g;
  decode_refusals = VlenDecodeRefusals g;
  compacted = λ old new. ⊥;
  compact_refusals = λ b. done;
  answerable = λ n. ⊤;
  read_refusals = λ b points. VlenDecodeRefusals g b;
}
