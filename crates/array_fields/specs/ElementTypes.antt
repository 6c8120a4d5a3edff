-- The data type of an array: what its elements are, and as what the codecs take them.
use Rattle.std.specs.Prelude.{◌≡◌, ◌⊎◌, ◌<◌, ◌*◌, ◌%◌, ℕ, Option, Some, None, if◌then◌else◌, codes, bytes_eq, drop, unwrap_or}
use Rattle.std.specs.Prelude.{option_and_then}
use Rattle.std.specs.Str.Parse.{digits_value, without_leading_plus}
use Rattle.parts_errors.specs.Words.{Bytes as Text}
use Rattle.serde_json.specs.Data.{Data}
use Rattle.codec_metadata.specs.Metadata.{name_in}
use Rattle.parts_arrays.specs.Types.{type_name}
use Rattle.parts_arrays.specs.declared.data_type.DataType.{DataType}
use Rattle.parts_arrays.specs.declared.data_type.DataType.TheVariants.{UInt16, UInt32, UInt64, Int64, Raw, Bytes}
use Rattle.array_fields.specs.MetadataFields.{configured_in, whole_number_in}
use Rattle.array_fields.specs.declared.floats.FloatFormat.{FloatFormat}
use Rattle.array_fields.specs.declared.floats.FloatFormat.TheVariants.{Float16, BFloat16, Float32, Float64}
use Rattle.array_fields.specs.declared.element_types.ElementType.{ElementType}
use Rattle.array_fields.specs.declared.element_types.ElementType.TheVariants.{Number, Float, Complex, RawBits}
use Rattle.array_fields.specs.declared.element_types.ElementType.TheVariants.{DateTime64, TimeDelta64, Utf8, Binary, Utf32, NullTerminated}
use Rattle.array_fields.specs.declared.element_types.ElementType.TheVariants.{Unread}

-- the types of the names that the codecs do not know: floats, pairs of them, times, and elements that have lengths of their own
abbrev pub listed_type : Text → Option ElementType
listed_type name =
    if bytes_eq name (codes "float16") then Some (Float Float16) else
    if bytes_eq name (codes "bfloat16") then Some (Float BFloat16) else
    if bytes_eq name (codes "float32") then Some (Float Float32) else
    if bytes_eq name (codes "float64") then Some (Float Float64) else
    if bytes_eq name (codes "numpy.datetime64") then Some DateTime64 else
    if bytes_eq name (codes "numpy.timedelta64") then Some TimeDelta64 else
    if bytes_eq name (codes "complex64") then Some (Complex Float32) else
    if bytes_eq name (codes "complex128") then Some (Complex Float64) else
    if bytes_eq name (codes "complex_float16") then Some (Complex Float16) else
    if bytes_eq name (codes "complex_bfloat16") then Some (Complex BFloat16) else
    if bytes_eq name (codes "string") then Some Utf8 else
    if bytes_eq name (codes "bytes") then Some Binary else
    if bytes_eq name (codes "variable_length_bytes") then Some Binary else None

-- how many bytes an element has, by the configuration of its type
abbrev pub length_in : Data → Option ℕ
length_in d = option_and_then whole_number_in (configured_in (codes "length_bytes") d)

-- as what the codecs take a float: as the unsigned number of the same size
abbrev pub float_carrier : FloatFormat → DataType
float_carrier Float16 = UInt16
float_carrier BFloat16 = UInt16
float_carrier Float32 = UInt32
float_carrier Float64 = UInt64

-- how many bytes a float has
abbrev pub float_size : FloatFormat → ℕ
float_size Float16 = 2
float_size BFloat16 = 2
float_size Float32 = 4
float_size Float64 = 8

-- as what the codecs take an element: a complex number, raw bits and a text as their bytes
abbrev pub carrier : ElementType → DataType
carrier (Number data_type) = data_type
carrier (Float format) = float_carrier format
carrier DateTime64 = Int64
carrier TimeDelta64 = Int64
carrier (Complex format) = Raw (2 * float_size format)
carrier Utf8 = Bytes
carrier Binary = Bytes
carrier (Utf32 size) = Raw size
carrier (NullTerminated size) = Raw size
carrier (RawBits size) = Raw size
carrier (Unread size) = Raw size

-- the name of a type by which it is found, if it is read
abbrev pub IsNameOf : ElementType → Text → Type 0
IsNameOf (Number data_type) name = name ≡ unwrap_or (type_name data_type) (codes "raw")
IsNameOf (RawBits size) name = name ≡ codes "raw"
IsNameOf (Utf32 size) name = name ≡ codes "fixed_length_utf32"
IsNameOf (NullTerminated size) name = name ≡ codes "null_terminated_bytes"
IsNameOf (Unread size) name = name ≡ codes "raw"
IsNameOf element_type name = listed_type name ≡ Some element_type

-- elements of the type are read
abbrev pub IsRead : ElementType → Type 0
IsRead (Unread size) = ⊥
IsRead element_type = Unit {0}

-- the name says how many bits there are, behind an `r`
pub record IsRaw (name : Text) (size : ℕ) : Type 0 where
  pub some : 0 < size
  pub bits : digits_value 10 (without_leading_plus (drop 1 name)) ≡ 8 * size

-- a type that the codecs know has the name
abbrev pub IsNamed : Text → ElementType → Type 0
IsNamed name (Number data_type) = type_name data_type ≡ Some name
IsNamed name element_type = ⊥

-- none has it, but for `bytes`, whose elements are not of one size
abbrev pub IsUnnamed : Text → Type 0
IsUnnamed name = (data_type : DataType) → type_name data_type ≡ Some name → data_type ≡ Bytes

-- a type whose configuration says how many bytes an element has: texts of four bytes a character, texts of one, and raw bits
abbrev pub IsConfigured : Text → Data → ElementType → Type 0
IsConfigured name d (Utf32 size) = (name ≡ codes "fixed_length_utf32") × (length_in d ≡ Some size) × (size % 4 ≡ 0)
IsConfigured name d (NullTerminated size) = (name ≡ codes "null_terminated_bytes") × (length_in d ≡ Some size)
IsConfigured name d (RawBits size) = (name ≡ codes "raw_bytes") × (length_in d ≡ Some size)
IsConfigured name d element_type = ⊥

-- raw bits by the name; where a codec of elements is not served, which is named, elements of an unknown size are one byte
abbrev pub IsOfSize : Option Text → Text → ElementType → Type 0
IsOfSize codec name (RawBits size) = IsRaw name size
IsOfSize (Some codec) name (Unread size) = size ≡ 1
IsOfSize codec name element_type = ⊥

-- the type of a name by what is listed of it, else by its configuration or by the name itself
abbrev pub IsListedOr : Option ElementType → Option Text → Text → Data → ElementType → Type 0
IsListedOr (Some listed) codec name d element_type = element_type ≡ listed
IsListedOr None codec name d element_type = IsConfigured name d element_type ⊎ IsOfSize codec name element_type

-- the type that a value with this name gives
abbrev pub IsTypeOf : Option Text → Text → Data → ElementType → Type 0
IsTypeOf codec name d element_type =
    IsNamed name element_type ⊎ (IsUnnamed name × IsListedOr (listed_type name) codec name d element_type)

abbrev pub IsTypeNamed : Option Text → Option Text → Data → ElementType → Type 0
IsTypeNamed codec None d element_type = ⊥
IsTypeNamed codec (Some name) d element_type = IsTypeOf codec name d element_type

-- the type of elements of metadata that gives a value of one
abbrev pub IsTypeIn : Option Text → Option Data → ElementType → Type 0
IsTypeIn codec None element_type = ⊥
IsTypeIn codec (Some d) element_type = IsTypeNamed codec (name_in d) d element_type
