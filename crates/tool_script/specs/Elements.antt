-- The element types of a script, and the bytes of their elements.
use Rattle.std.specs.Prelude.{ℕ, ◌≤◌, ⊤, List, take}
use Rattle.std.specs.Int.{w64, to_le_bytes}
use Rattle.parts_arrays.specs.declared.data_type.DataType.{DataType}
use Rattle.parts_arrays.specs.declared.data_type.DataType.TheVariants as data_type
use Rattle.parts_arrays.specs.declared.data_type.DataTypeSize.{DataTypeSize}
use Rattle.parts_arrays.specs.declared.data_type.DataTypeSize.TheVariants.{Fixed, Variable}
use Rattle.tool_script.specs.declared.element_type.NumberType.{NumberType}
use Rattle.tool_script.specs.declared.element_type.NumberType.TheVariants.{UInt8, UInt16, UInt32, UInt64}
use Rattle.tool_script.specs.declared.element_type.ElementType.{ElementType}
use Rattle.tool_script.specs.declared.element_type.ElementType.TheVariants.{Number, Bytes}

-- a type of numbers as codecs know it
abbrev pub number_type : NumberType → DataType
number_type UInt8 = data_type.UInt8
number_type UInt16 = data_type.UInt16
number_type UInt32 = data_type.UInt32
number_type UInt64 = data_type.UInt64

-- a type as codecs know it
abbrev pub type_of : ElementType → DataType
type_of (Number number) = number_type number
type_of Bytes = data_type.Bytes

-- how many bytes a number has
abbrev pub width_of : NumberType → ℕ
width_of UInt8 = 1
width_of UInt16 = 2
width_of UInt32 = 4
width_of UInt64 = 8

-- the element of a number: its lowest bytes, least significant first
abbrev pub element_of_number : NumberType → ℕ → List ℕ
element_of_number number_type number = take (width_of number_type) (to_le_bytes w64 number)

-- elements of one size are numbers, which have at most 8 bytes
abbrev pub IsShortSize : DataTypeSize → Type 0
IsShortSize (Fixed size) = size ≤ 8
IsShortSize Variable = ⊤
