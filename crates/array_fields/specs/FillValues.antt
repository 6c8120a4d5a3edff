-- The fill value that the metadata gives: of `bool` true or false, of whole numbers and times a whole number, of floats a number, the
-- name of one, or its bits; of complex numbers a pair of these; of raw bits, and of bytes of any number, a list of bytes or their base64;
-- of bytes behind which zeros stand the same; and of texts a text.
use Rattle.std.specs.Prelude.{◌≡◌, ℕ, ℤ, pos, negsuc, Option, Some, None, if◌then◌else◌, option_map, option_and_then}
use Rattle.std.specs.Prelude.{codes, bytes_eq, take, drop, ◌++◌, List, [], ◌∷◌, replicate}
use Rattle.std.specs.Str.{chars}
use Rattle.std.specs.Int.{w8, w16, w32, w64, from_bool, from_le_bytes, to_le_bytes, cast_signed}
use Rattle.parts_errors.specs.Words.{Bytes as Text}
use Rattle.parts_arrays.specs.declared.data_type.DataType.{DataType}
use Rattle.parts_arrays.specs.declared.data_type.DataType.TheVariants.{Bool, Int8, Int16, Int32, Int64}
use Rattle.parts_arrays.specs.declared.data_type.DataType.TheVariants.{UInt8, UInt16, UInt32, UInt64, Raw, Bytes, Optional}
use Rattle.serde_json.specs.Data.{Data, Items, number, string, no_items, item}
use Rattle.serde_json.specs.Find.{as_array, as_bool, as_number, as_integer, as_str, to_float}
use Rattle.array_fields.specs.RawBits.{IsRawIn}
use Rattle.array_fields.specs.declared.floats.FloatFormat.{FloatFormat}
use Rattle.array_fields.specs.declared.element_types.ElementType.{ElementType}
use Rattle.array_fields.specs.declared.element_types.ElementType.TheVariants.{Number, Float, Complex, RawBits, DateTime64, TimeDelta64}
use Rattle.array_fields.specs.declared.element_types.ElementType.TheVariants.{Utf8, Binary, Utf32, NullTerminated, Unread}
use Rattle.array_fields.specs.ElementTypes.{carrier, float_carrier, float_size}
use Rattle.array_fields.specs.Floats.{IsFloatText, IsFloatNumber}

-- the whole number that an element is, its bytes least significant first, of a signed type in two's complement; of the types that are read
abbrev pub number_of : DataType → Text → ℤ
number_of Bool element = pos (from_le_bytes w8 element)
number_of Int8 element = cast_signed w8 (from_le_bytes w8 element)
number_of Int16 element = cast_signed w16 (from_le_bytes w16 element)
number_of Int32 element = cast_signed w32 (from_le_bytes w32 element)
number_of Int64 element = cast_signed w64 (from_le_bytes w64 element)
number_of UInt8 element = pos (from_le_bytes w8 element)
number_of UInt16 element = pos (from_le_bytes w16 element)
number_of UInt32 element = pos (from_le_bytes w32 element)
number_of UInt64 element = pos (from_le_bytes w64 element)
number_of (Raw n) element = pos 0
number_of Bytes element = pos 0
number_of Optional element = pos 0

-- the whole number that a value says of an element: of `bool` 1 for true and 0 for false; of types that are not read nothing is said
abbrev pub number_in : DataType → Data → Option ℤ
number_in Bool d = option_map (λ b. pos (from_bool b)) (as_bool d)
number_in (Raw n) d = Some (pos 0)
number_in data_type d = option_and_then as_integer (as_number d)

-- the number of units that a value says of a time: "NaT", no time, is the least number
abbrev pub time_in : Data → Option ℤ
time_in (string text) = if bytes_eq text (codes "NaT") then Some (negsuc 0x7fff_ffff_ffff_ffff) else None
time_in d = option_and_then as_integer (as_number d)

-- the bits that a value says of a float: by a text, or by a number of JSON, which is a float64 and rounded once more
abbrev pub IsFloatIn : FloatFormat → Data → ℕ → Type 0
IsFloatIn format (string text) bits = IsFloatText format text bits
IsFloatIn format (number n) bits = IsFloatNumber format (to_float n) bits
IsFloatIn format d bits = ⊥

-- what a value says of an element that is this number, where floats are their bits; of types that are not read nothing is said, and a
-- complex number, raw bits, a text and bytes are no number
abbrev pub IsElementIn : ElementType → Data → ℤ → Type 0
IsElementIn (Number data_type) d z = number_in data_type d ≡ Some z
IsElementIn (Float format) d z = (bits : ℕ) × (z ≡ pos bits) × IsFloatIn format d bits
IsElementIn DateTime64 d z = time_in d ≡ Some z
IsElementIn TimeDelta64 d z = time_in d ≡ Some z
IsElementIn (Unread size) d z = Unit {0}
IsElementIn (Complex format) d z = ⊥
IsElementIn (RawBits size) d z = ⊥
IsElementIn Utf8 d z = ⊥
IsElementIn Binary d z = ⊥
IsElementIn (Utf32 size) d z = ⊥
IsElementIn (NullTerminated size) d z = ⊥

-- a complex number is two floats, the real part and then the imaginary one
pub record IsComplexOf (format : FloatFormat) (real imaginary : Data) (element : Text) : Type 0 where
  pub real_part : IsElementIn (Float format) real (number_of (float_carrier format) (take (float_size format) element))
  pub imaginary_part : IsElementIn (Float format) imaginary (number_of (float_carrier format) (drop (float_size format) element))

abbrev pub IsComplexIn : FloatFormat → Option Items → Text → Type 0
IsComplexIn format None element = ⊥
IsComplexIn format (Some no_items) element = ⊥
IsComplexIn format (Some (item real no_items)) element = ⊥
IsComplexIn format (Some (item real (item imaginary no_items))) element = IsComplexOf format real imaginary element
IsComplexIn format (Some (item real (item imaginary (item d later)))) element = ⊥

-- characters in UTF-32, each of four bytes, least significant first
abbrev pub utf32 : List ℕ → Text
utf32 [] = []
utf32 (c ∷ cs) = to_le_bytes w32 c ++ utf32 cs

-- an element is these bytes, and zeros behind them
abbrev pub IsFilledUp : Text → Text → Type 0
IsFilledUp bytes element = (zeros : ℕ) × (element ≡ bytes ++ replicate zeros 0)

-- an element is a text in UTF-32, and zeros behind it
abbrev pub IsUtf32Of : Option Text → Text → Type 0
IsUtf32Of None element = ⊥
IsUtf32Of (Some text) element = IsFilledUp (utf32 (chars text)) element

-- what a value says of an element with these bytes
abbrev pub IsValueIn : ElementType → Data → Text → Type 0
IsValueIn (Complex format) d element = IsComplexIn format (as_array d) element
IsValueIn (RawBits size) d element = IsRawIn d element
IsValueIn Binary d element = IsRawIn d element
IsValueIn Utf8 d element = as_str d ≡ Some element
IsValueIn (Utf32 size) d element = IsUtf32Of (as_str d) element
IsValueIn (NullTerminated size) d element = (bytes : Text) × IsRawIn d bytes × IsFilledUp bytes element
IsValueIn element_type d element = IsElementIn element_type d (number_of (carrier element_type) element)

-- the fill value of metadata that gives a value of one
abbrev pub IsFillIn : ElementType → Option Data → Text → Type 0
IsFillIn element_type None element = ⊥
IsFillIn element_type (Some d) element = IsValueIn element_type d element
