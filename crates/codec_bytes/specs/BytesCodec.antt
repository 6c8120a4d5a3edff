-- The codec `bytes`: the elements one after the other, whole numbers in the byte order that it is told.
use Rattle.std.specs.Prelude.{◌≡◌, ◌≤◌, ◌<◌, ◌^◌, ◌*◌, ◌==◌, ⊤, if◌then◌else◌, ℕ, Bool, true, false, List, Option, Some, None, length, map, replicate, reverse}
use Rattle.std.specs.List.{concat}
use Rattle.parts_errors.specs.Order.{◌or◌then◌, done}
use Rattle.parts_row_major.specs.Numbering.{count_of}
use Rattle.parts_arrays.specs.ArraySpec.{ArraySpec}
use Rattle.parts_arrays.specs.Types.{size_of, byte_size}
use Rattle.parts_row_major.specs.Pieces.{pieces}
use Rattle.parts_arrays.specs.Arrays.{Array}
use Rattle.parts_arrays.specs.declared.data_type.DataType.{DataType}
use Rattle.parts_arrays.specs.declared.data_type.DataType.TheVariants as type
use Rattle.parts_arrays.specs.declared.data_type.DataTypeSize.TheVariants.{Fixed}
use Rattle.parts_errors.specs.declared.error.CodecError.{CodecError}
use Rattle.parts_errors.specs.declared.error.CodecError.TheVariants.{UnsupportedDataType, BadFillValue, TooLarge, WrongElementKind, InvalidNumberOfElements, Damaged}
use Rattle.codec_traits.specs.Meanings.{Meaning}
use Rattle.codec_bytes.specs.declared.bytes_codec.Endianness.{Endianness}
use Rattle.codec_bytes.specs.declared.bytes_codec.Endianness.TheVariants.{Little, Big}
use Rattle.codec_traits.specs.declared.representation.BytesRepresentation.{BytesRepresentation}
use Rattle.codec_traits.specs.declared.representation.BytesRepresentation.TheVariants.{FixedSize}

-- the types whose elements are whole numbers, and so have a byte order
abbrev pub is_whole_number : DataType → Bool
is_whole_number type.Bool = false
is_whole_number type.Int8 = true
is_whole_number type.Int16 = true
is_whole_number type.Int32 = true
is_whole_number type.Int64 = true
is_whole_number type.UInt8 = true
is_whole_number type.UInt16 = true
is_whole_number type.UInt32 = true
is_whole_number type.UInt64 = true
is_whole_number (type.Raw n) = false
is_whole_number type.Bytes = false
is_whole_number type.Optional = false

-- whether the codec stores an element's bytes in the other order than they have in memory, which is little endian
abbrev pub is_reversed : Option Endianness → DataType → Bool
is_reversed None data_type = false
is_reversed (Some Little) data_type = false
is_reversed (Some Big) data_type = is_whole_number data_type

-- an element as it is stored, and a stored one as it is in memory
abbrev pub swapped : Bool → List ℕ → List ℕ
swapped false e = e
swapped true e = reverse e

-- the codec knows the byte order of a type, where it has one
abbrev pub KnowsOrder : Option Endianness → DataType → Type 0
KnowsOrder (Some endianness) data_type = ⊤
KnowsOrder None data_type = is_whole_number data_type ≡ true → byte_size (size_of data_type) ≤ 1

-- the flag tells as the codec does whether the bytes of the type's elements are stored in the other order
abbrev pub SwapsAs : Option Endianness → DataType → Bool → Type 0
SwapsAs endianness data_type reversed =
    (e : List ℕ) → length e ≡ byte_size (size_of data_type) → swapped reversed e ≡ swapped (is_reversed endianness data_type) e

-- the bytes of one element
abbrev pub element_size : ArraySpec → ℕ
element_size g = byte_size (size_of g.data_type)

-- the types that the codec serves: those of one size that isn't 0, whose byte order it knows
pub record Supports (endianness : Option Endianness) (data_type : DataType) : Type 0 where
  pub fixed : size_of data_type ≡ Fixed (byte_size (size_of data_type))
  pub positive : 0 < byte_size (size_of data_type)
  pub order : KnowsOrder endianness data_type

-- the arrays that the codec serves
pub record BytesServes (endianness : Option Endianness) (g : ArraySpec) : Type 0 where
  pub supported : Supports endianness g.data_type
  pub fill_fits : length g.fill ≡ element_size g
  pub fits : count_of g.shape * element_size g < 2 ^ 64

-- what is found of an array that is served
pub record IsMeasured (endianness : Option Endianness) (g : ArraySpec) (size count total : ℕ) (reversed : Bool) : Type 0 where
  pub serves : BytesServes endianness g
  pub size_is : size ≡ element_size g
  pub count_is : count ≡ count_of g.shape
  pub some : 0 < count_of g.shape
  pub total_is : total ≡ count_of g.shape * element_size g
  pub swaps : SwapsAs endianness g.data_type reversed

-- the stored bytes of an array
abbrev pub bytes_of : Option Endianness → ArraySpec → List (List ℕ) → List ℕ
bytes_of endianness g elements = concat (map (swapped (is_reversed endianness g.data_type)) elements)

-- the cells of stored bytes: all are there, or none where the bytes have another length
unfoldable pub bytes_cells : Option Endianness → ArraySpec → List ℕ → List (Option (List ℕ))
bytes_cells endianness g b =
    if length b == count_of g.shape * element_size g
    then map (λ e. Some (swapped (is_reversed endianness g.data_type) e)) (pieces (element_size g) (count_of g.shape) b)
    else replicate (count_of g.shape) None

abbrev pub bytes_representation : ArraySpec → Option BytesRepresentation
bytes_representation g = Some (FixedSize (count_of g.shape * element_size g))

-- the tests of `check`, in their order
abbrev pub BytesCheckRefusals : Option Endianness → ArraySpec → CodecError → Type 0
BytesCheckRefusals endianness g =
    Supports endianness g.data_type or UnsupportedDataType then
    length g.fill ≡ element_size g or BadFillValue then
    count_of g.shape * element_size g < 2 ^ 64 or TooLarge then
    done

-- the tests of `encode` after those of `check`
abbrev pub BytesEncodeRefusals : ArraySpec → Array → CodecError → Type 0
BytesEncodeRefusals g array =
    array.kind ≡ size_of g.data_type or WrongElementKind then
    length array.elements ≡ count_of g.shape or InvalidNumberOfElements then
    done

-- the tests of `decode` after those of `check`
abbrev pub BytesDecodeRefusals : ArraySpec → List ℕ → CodecError → Type 0
BytesDecodeRefusals g b =
    length b ≡ count_of g.shape * element_size g or Damaged then
    done

-- the tests of a read of some cells
abbrev pub BytesReadRefusals : ArraySpec → List ℕ → List (List ℕ) → CodecError → Type 0
BytesReadRefusals g b points =
    length b ≡ count_of g.shape * element_size g or Damaged then
    length points * element_size g < 2 ^ 64 or TooLarge then
    done

-- what the codec means
abbrev pub bytes_meaning : Option Endianness → ArraySpec → Meaning
bytes_meaning endianness g = record {
  serves = BytesServes endianness g;
  cells = bytes_cells endianness g;
  written = λ a b. b ≡ bytes_of endianness g a;
  encodable = λ a. ⊤;
  fits = λ a. ⊤;
  representation = bytes_representation g;
  check_refusals = BytesCheckRefusals endianness g;
  encode_refusals = BytesEncodeRefusals g;
  decode_refusals = BytesDecodeRefusals g;
  compacted = λ old new. ⊥;
  compact_refusals = λ b e. ⊥;
  answerable = λ n. ⊤;
  read_refusals = BytesReadRefusals g;
}
