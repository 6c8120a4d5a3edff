-- Which bits a float has that metadata gives by a name, by its bits, or by a number (IEEE 754; Zarr V3 core, "Data types").
use Rattle.std.specs.Prelude.{◌≡◌, ◌⊎◌, ◌<◌, ◌+◌, ◌-◌, ◌*◌, ◌%◌, ◌^◌, ℕ, pos, Bool, true, ◌&&◌, ◌==◌, Float, length, take, drop, nat_lt}
use Rattle.std.specs.Prelude.{if◌then◌else◌, ◌↔◌, ◌≤◌, false, Option, Some, None, codes, bytes_eq, to_bits, from_bits}
use Rattle.std.specs.Float.{binary32, binary64, is_sign_negative, float_with_sign, round_to_format}
use Rattle.std.specs.Float.Ieee.{le, lt, neg, div, of_int}
use Rattle.std.specs.Str.Parse.{AllDigits, digits_value}
use Rattle.parts_errors.specs.Words.{Bytes as Text}
use Rattle.array_fields.specs.declared.floats.FloatFormat.{FloatFormat}
use Rattle.array_fields.specs.declared.floats.FloatFormat.TheVariants.{Float16, BFloat16, Float32, Float64}

-- how many hexadecimal digits the bits have
abbrev pub digits_of : FloatFormat → ℕ
digits_of Float16 = 4
digits_of BFloat16 = 4
digits_of Float32 = 8
digits_of Float64 = 16

-- the bits of infinity, from which on no number is finite
abbrev pub infinity_of : FloatFormat → ℕ
infinity_of Float16 = 0x7c00
infinity_of BFloat16 = 0x7f80
infinity_of Float32 = 0x7f80_0000
infinity_of Float64 = 0x7ff0_0000_0000_0000

-- the bits of the NaN that the name says: the sign clear, and of the digits the highest alone set
abbrev pub nan_of : FloatFormat → ℕ
nan_of Float16 = 0x7e00
nan_of BFloat16 = 0x7fc0
nan_of Float32 = 0x7fc0_0000
nan_of Float64 = 0x7ff8_0000_0000_0000

-- the bit of the sign, set for a minus
abbrev pub sign_of : FloatFormat → ℕ
sign_of Float16 = 0x8000
sign_of BFloat16 = 0x8000
sign_of Float32 = 0x8000_0000
sign_of Float64 = 0x8000_0000_0000_0000

abbrev pub named_bits : FloatFormat → Text → Option ℕ
named_bits format text =
    if bytes_eq text (codes "NaN") then Some (nan_of format) else
    if bytes_eq text (codes "Infinity") then Some (infinity_of format) else
    if bytes_eq text (codes "-Infinity") then Some (sign_of format + infinity_of format) else None

-- `0x`, and as many hexadecimal digits as the bits have
pub record IsHexadecimal (format : FloatFormat) (text : Text) (bits : ℕ) : Type 0 where
  pub prefix : take 2 text ≡ codes "0x"
  pub length : length text ≡ 2 + digits_of format
  pub digits : AllDigits 16 (drop 2 text)
  pub value : bits ≡ digits_value 16 (drop 2 text)

abbrev pub IsFloatText : FloatFormat → Text → ℕ → Type 0
IsFloatText format text bits = (named_bits format text ≡ Some bits) ⊎ IsHexadecimal format text bits

-- the numbers that float16 would have with one binary digit more, in order: the bits of a float16 and a 0 or 1 behind them
abbrev pub finer_half : ℕ → Float
finer_half m =
    if nat_lt m 2048 then div binary32 (of_int binary32 (pos m)) (of_int binary32 (pos (2 ^ 25)))
    else from_bits binary32 (m * 2 ^ 12 + 112 * 2 ^ 23)

-- and those of bfloat16, which is the upper half of a float32
abbrev pub finer_brain : ℕ → Float
finer_brain m = from_bits binary32 (m * 2 ^ 15)

-- a number lies between the two that are halfway to the next floats, and is neither where the bits are odd: so it is rounded to the
-- nearest, and a tie to the even one
abbrev pub is_between : ℕ → Float → Float → Float → Bool
is_between bits lower x upper = if bits % 2 == 0 then le lower x && le x upper else lt lower x && lt x upper

abbrev pub is_nearest : (ℕ → Float) → Float → ℕ → Bool
is_nearest finer x bits = is_between bits (finer (2 * bits - 1)) x (finer (2 * bits + 1))

-- the bits of sixteen that a number is rounded to
pub record IsRoundedTo (finer : ℕ → Float) (x : Float) (bits : ℕ) : Type 0 where
  pub nearest : is_nearest finer (float_with_sign false x) (bits % 0x8000) ≡ true
  pub sign : (0x8000 ≤ bits) ↔ (is_sign_negative x ≡ true)

-- the bits of the finite float that is nearest to a float64
abbrev pub IsNearestTo : FloatFormat → Float → ℕ → Type 0
IsNearestTo Float16 x bits = IsRoundedTo finer_half x bits
IsNearestTo BFloat16 x bits = IsRoundedTo finer_brain x bits
IsNearestTo Float32 x bits = bits ≡ to_bits binary32 (round_to_format binary32 x)
IsNearestTo Float64 x bits = bits ≡ to_bits binary64 x

pub record IsFloatNumber (format : FloatFormat) (x : Float) (bits : ℕ) : Type 0 where
  pub nearest : IsNearestTo format x bits
  pub finite : bits % sign_of format < infinity_of format

-- the number that the bits of a float16 are
abbrev pub half_size : ℕ → Float
half_size bits =
    if nat_lt bits 0x7c00 then finer_half (2 * bits) else
    if bits == 0x7c00 then from_bits binary32 (infinity_of Float32) else from_bits binary32 (nan_of Float32)

abbrev pub half_value : ℕ → Float
half_value bits = if nat_lt bits 0x8000 then half_size bits else neg (half_size (bits % 0x8000))
