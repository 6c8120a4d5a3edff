-- What a data type says of its elements.
use Rattle.std.specs.Prelude.{◌≡◌, ◌≢◌, ℕ, List, Option, Some, None, length, codes}
use Rattle.parts_arrays.specs.declared.data_type.DataType.{DataType}
use Rattle.parts_arrays.specs.declared.data_type.DataType.TheVariants.{Bool, Int8, Int16, Int32, Int64, UInt8, UInt16, UInt32, UInt64, Raw, Bytes, Optional}
use Rattle.parts_arrays.specs.declared.data_type.DataTypeSize.{DataTypeSize}
use Rattle.parts_arrays.specs.declared.data_type.DataTypeSize.TheVariants.{Fixed, Variable}

-- how many bytes an element of a type has; `Optional` is a mark that has no elements
abbrev pub size_of : DataType → DataTypeSize
size_of Bool = Fixed 1
size_of Int8 = Fixed 1
size_of Int16 = Fixed 2
size_of Int32 = Fixed 4
size_of Int64 = Fixed 8
size_of UInt8 = Fixed 1
size_of UInt16 = Fixed 2
size_of UInt32 = Fixed 4
size_of UInt64 = Fixed 8
size_of (Raw n) = Fixed n
size_of Bytes = Variable
size_of Optional = Fixed 0

-- a type with elements: all but `Optional` and `Raw(0)`
abbrev pub HasElements : DataType → Type 0
HasElements data_type = size_of data_type ≢ Fixed 0

-- an element's length is the one that its kind asks
abbrev pub FitsKind : DataTypeSize → List ℕ → Type 0
FitsKind (Fixed n) element = length element ≡ n
FitsKind Variable element = Unit {0}

-- the bytes of one element, 0 where that varies
abbrev pub byte_size : DataTypeSize → ℕ
byte_size (Fixed n) = n
byte_size Variable = 0

-- the Zarr name of a type, of those whose name says no more
abbrev pub type_name : DataType → Option (List ℕ)
type_name Bool = Some (codes "bool")
type_name Int8 = Some (codes "int8")
type_name Int16 = Some (codes "int16")
type_name Int32 = Some (codes "int32")
type_name Int64 = Some (codes "int64")
type_name UInt8 = Some (codes "uint8")
type_name UInt16 = Some (codes "uint16")
type_name UInt32 = Some (codes "uint32")
type_name UInt64 = Some (codes "uint64")
type_name (Raw n) = None
type_name Bytes = Some (codes "bytes")
type_name Optional = None
