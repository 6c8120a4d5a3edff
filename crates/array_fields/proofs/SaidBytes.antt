-- What values say of complex numbers.
use Rattle.std.proofs.Common.{◌≡◌, List, [], ◌∷◌, Option, Some, ◌++◌, length, get_or, take, drop, refl, sym, ap, subst, ◌∙◌, arith}
use Rattle.std.proofs.Math.Seq.{take-append_seam, drop-append_seam}
use Rattle.serde_json.specs.Data.{Data, Items, no_items, item}
use Rattle.serde_json.specs.View.{view, items_view}
use Rattle.serde_json.specs.declared.value.Value.{Value}
use Rattle.parts_arrays.specs.Types.{size_of, FitsKind}
use Rattle.parts_arrays.specs.declared.data_type.DataType.{DataType}
use Rattle.parts_arrays.specs.declared.data_type.DataTypeSize.TheVariants.{Fixed}
use Rattle.parts_errors.specs.Words.{Bytes as Text}
use Rattle.array_fields.specs.declared.floats.FloatFormat.{FloatFormat}
use Rattle.array_fields.specs.declared.floats.FloatFormat.TheVariants.{Float16, BFloat16, Float32, Float64}
use Rattle.array_fields.specs.declared.element_types.ElementType.{ElementType}
use Rattle.array_fields.specs.declared.element_types.ElementType.TheVariants as of
use Rattle.array_fields.specs.ElementTypes.{carrier, float_carrier, float_size}
use Rattle.array_fields.specs.FillValues.{number_of, IsElementIn, IsComplexIn, IsValueIn}

-- a value that says an element as a number says it
pub number_said : (element_type : ElementType) (d : Data) (element : Text) → IsElementIn element_type d (number_of (carrier element_type) element)
    → IsValueIn element_type d element
number_said (of.Number data_type) d element h = h
number_said (of.Float format) d element h = h
number_said (of.Complex format) d element h = absurd h
number_said (of.RawBits size) d element h = absurd h
number_said of.Utf8 d element h = absurd h
number_said of.Binary d element h = absurd h
number_said (of.Utf32 size) d element h = absurd h
number_said (of.NullTerminated size) d element h = absurd h
number_said of.DateTime64 d element h = h
number_said of.TimeDelta64 d element h = h
number_said (of.Unread size) d element h = h

-- bytes of the one size fit
pub size_fits : (data_type : DataType) (bytes : Text) → size_of data_type ≡ Fixed (length bytes) → FitsKind (size_of data_type) bytes
size_fits data_type bytes is = rw is refl

-- two floats, one after the other
pub complex_said : (format : FloatFormat) (real imaginary : Data) (o : Option Items) (a b : Text) → o ≡ Some (item real (item imaginary no_items))
    → length a ≡ float_size format → IsElementIn (of.Float format) real (number_of (float_carrier format) a)
    → IsElementIn (of.Float format) imaginary (number_of (float_carrier format) b) → IsComplexIn format o (a ++ b)
complex_said format real imaginary o a b is long first second =
    let front : take (float_size format) (a ++ b) ≡ a = ap (λ n. take n (a ++ b)) (sym long) ∙ take-append_seam a b in
    let back : drop (float_size format) (a ++ b) ≡ b = ap (λ n. drop n (a ++ b)) (sym long) ∙ drop-append_seam a b in
    rw is (record {
      real_part = subst (λ (part : Text). IsElementIn (of.Float format) real (number_of (float_carrier format) part)) (sym front) first;
      imaginary_part = subst (λ (part : Text). IsElementIn (of.Float format) imaginary (number_of (float_carrier format) part)) (sym back) second;
    })

-- as many bytes as a float has
float_long : (format : FloatFormat) (a : Text) → size_of (float_carrier format) ≡ Fixed (length a) → length a ≡ float_size format
float_long Float16 a is = cc
float_long BFloat16 a is = cc
float_long Float32 a is = cc
float_long Float64 a is = cc

two_items : (values : List Value) (real imaginary : Value) → length values ≡ 2 → real ≡ get_or values 0 real → imaginary ≡ get_or values 1 imaginary
    → items_view values ≡ item (view real) (item (view imaginary) no_items)
two_items [] real imaginary two first second = absurd (omega arith)
two_items (a ∷ []) real imaginary two first second = absurd (omega arith)
two_items (a ∷ b ∷ []) real imaginary two first second = rw (first, second) refl
two_items (a ∷ b ∷ d ∷ later) real imaginary two first second = absurd (omega arith)

-- of a list of two values
pub complex_pair : (format : FloatFormat) (values : List Value) (real imaginary : Value) (o : Option Items) (a b : Text)
    → Some (items_view values) ≡ o → length values ≡ 2 → real ≡ get_or values 0 real → imaginary ≡ get_or values 1 imaginary
    → size_of (float_carrier format) ≡ Fixed (length a) → IsElementIn (of.Float format) (view real) (number_of (float_carrier format) a)
    → IsElementIn (of.Float format) (view imaginary) (number_of (float_carrier format) b) → IsComplexIn format o (a ++ b)
complex_pair format values real imaginary o a b is two first second long real_said imaginary_said =
    complex_said format (view real) (view imaginary) o a b (sym is ∙ ap Some (two_items values real imaginary two first second)) (float_long format a long) real_said
    imaginary_said
