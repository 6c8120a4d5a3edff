-- What values say of floats and times.
use Rattle.std.proofs.Common.{◌≡◌, ◌<◌, ◌*◌, ℕ, None, Some, take, refl, sym, ap, ◌∙◌, arith, codes, option_map, option_and_then, subst}
use Rattle.std.specs.Prelude.{pos, Float}
use Rattle.std.specs.Int.{w64, to_le_bytes, cast_signed}
use Rattle.std.proofs.lemmas.Nat.{from_le_bytes-to_le_bytes_8}
use Rattle.serde_json.specs.Data.{Data, null, boolean, number, string, array, object}
use Rattle.serde_json.specs.Find.{as_str, as_number, as_integer, to_float}
use Rattle.parts_errors.specs.Words.{Bytes as Text}
use Rattle.parts_arrays.specs.Types.{size_of, byte_size}
use Rattle.array_fields.specs.declared.floats.FloatFormat.{FloatFormat}
use Rattle.array_fields.specs.declared.floats.FloatFormat.TheVariants.{Float16, BFloat16, Float32, Float64}
use Rattle.array_fields.specs.declared.element_types.ElementType.TheVariants as of
use Rattle.array_fields.specs.ElementTypes.{float_carrier}
use Rattle.array_fields.specs.Floats.{sign_of, IsFloatText, IsFloatNumber}
use Rattle.array_fields.specs.FillValues.{number_of, time_in, IsFloatIn, IsElementIn}
use Rattle.array_fields.proofs.Elements.{read_2, read_4}

some_same : {A : Type 0} (a b : A) → Some a ≡ Some b → a ≡ b
some_same a b e = cc

-- a text says of a float what it says
pub text_said : (format : FloatFormat) (d : Data) (text : Text) (bits : ℕ) → as_str d ≡ Some text → IsFloatText format text bits → IsFloatIn format d bits
text_said format null text bits is h = absurd (cc)
text_said format (boolean b) text bits is h = absurd (cc)
text_said format (number n) text bits is h = absurd (cc)
text_said format (string s) text bits is h = subst (λ (t : Text). IsFloatText format t bits) (sym (some_same s text is)) h
text_said format (array ds) text bits is h = absurd (cc)
text_said format (object ms) text bits is h = absurd (cc)

-- and a number what its float64 says
pub number_said : (format : FloatFormat) (d : Data) (x : Float) (bits : ℕ) → option_map to_float (as_number d) ≡ Some x → IsFloatNumber format x bits → IsFloatIn format d bits
number_said format null x bits is h = absurd (cc)
number_said format (boolean b) x bits is h = absurd (cc)
number_said format (number n) x bits is h = subst (λ (y : Float). IsFloatNumber format y bits) (sym (some_same (to_float n) x is)) h
number_said format (string s) x bits is h = absurd (cc)
number_said format (array ds) x bits is h = absurd (cc)
number_said format (object ms) x bits is h = absurd (cc)

-- the bytes of a float are those of its bits
pub float_element : (format : FloatFormat) (d : Data) (bits : ℕ) → bits < 2 * sign_of format → IsFloatIn format d bits
    → IsElementIn (of.Float format) d (number_of (float_carrier format) (take (byte_size (size_of (float_carrier format))) (to_le_bytes w64 bits)))
float_element Float16 d bits fits h = (bits, ap pos (read_2 bits ∙ omega arith), h)
float_element BFloat16 d bits fits h = (bits, ap pos (read_2 bits ∙ omega arith), h)
float_element Float32 d bits fits h = (bits, ap pos (read_4 bits ∙ omega arith), h)
float_element Float64 d bits fits h = (bits, ap pos (from_le_bytes-to_le_bytes_8 bits fits), h)

-- a value that is no text says a time as a number does
pub time_number : (d : Data) → as_str d ≡ None → time_in d ≡ option_and_then as_integer (as_number d)
time_number null e = refl
time_number (boolean b) e = refl
time_number (number n) e = refl
time_number (string s) e = absurd (cc)
time_number (array ds) e = refl
time_number (object ms) e = refl

pub time_text : (d : Data) → as_str d ≡ Some (codes "NaT") → time_in d ≡ Some (cast_signed w64 0x8000_0000_0000_0000)
time_text null e = absurd (cc)
time_text (boolean b) e = absurd (cc)
time_text (number n) e = absurd (cc)
time_text (string s) e = ap (λ (t : Text). time_in (string t)) (some_same s (codes "NaT") e)
time_text (array ds) e = absurd (cc)
time_text (object ms) e = absurd (cc)
