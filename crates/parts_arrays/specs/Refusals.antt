-- Which tests the calls on arrays make, in their order.
use Rattle.std.specs.Prelude.{◌≡◌, ℕ, ◌+◌, ◌*◌, ◌^◌, ◌<◌, length}
use Rattle.parts_errors.specs.Words.{Bytes, Refusals}
use Rattle.parts_errors.specs.Order.{◌or◌then◌}
use Rattle.parts_arrays.specs.Types.{size_of, HasElements, FitsKind}
use Rattle.parts_arrays.specs.Arrays.{Array}
use Rattle.parts_arrays.specs.declared.data_type.DataType.{DataType}
use Rattle.parts_arrays.specs.declared.data_type.DataTypeSize.{DataTypeSize}
use Rattle.parts_arrays.specs.declared.data_type.DataTypeSize.TheVariants.{Fixed, Variable}
use Rattle.parts_errors.specs.declared.error.CodecError.TheVariants.{TooLarge, InvalidNumberOfElements, UnsupportedDataType, BadFillValue, WrongElementKind}

-- the tests of an array that is to have so many elements of a type
abbrev pub ValidRefusals : Array → ℕ → DataType → Refusals → Refusals
ValidRefusals array n data_type later =
    HasElements data_type or UnsupportedDataType then
    array.kind ≡ size_of data_type or WrongElementKind then
    length array.elements ≡ n or InvalidNumberOfElements then
    later

-- an array has so many elements of a type that has elements
pub record IsValid (array : Array) (n : ℕ) (data_type : DataType) : Type 0 where
  pub supported : HasElements data_type
  pub kind : array.kind ≡ size_of data_type
  pub counted : length array.elements ≡ n

-- the bytes of so many fill values, and the offsets between them where the length varies, can be addressed
abbrev pub FillFits : DataTypeSize → ℕ → Bytes → Type 0
FillFits (Fixed size) n fill = n * size < 2 ^ 64
FillFits Variable n fill = (n * length fill < 2 ^ 64) × (n + 1 < 2 ^ 64)

-- the tests of an array of fill values
abbrev pub FillRefusals : DataType → ℕ → Bytes → Refusals → Refusals
FillRefusals data_type n fill later =
    HasElements data_type or UnsupportedDataType then
    FitsKind (size_of data_type) fill or BadFillValue then
    FillFits (size_of data_type) n fill or TooLarge then
    later
