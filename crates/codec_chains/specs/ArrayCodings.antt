-- What a codec from arrays to arrays means.
use Rattle.std.specs.Prelude.{◌≡◌, Option, Some, IfSome, length, map}
use Rattle.parts_errors.specs.Words.{Elements}
use Rattle.parts_arrays.specs.Arrays.{Array}

pub record ArrayCoding : Type 0 where
  -- the encoding of the elements of an array
  pub encoding : Elements → Elements
  -- the elements that these are the encoding of, or none
  pub decoding : Elements → Option Elements

-- the encoding of an array is of its kind
abbrev pub encoded_array : ArrayCoding → Array → Array
encoded_array coding array = record { kind = array.kind; elements = coding.encoding array.elements }

-- an encoding gives the elements back
abbrev pub IsInvertible : ArrayCoding → Type 0
IsInvertible coding = (elements : Elements) → coding.decoding (coding.encoding elements) ≡ Some elements

-- as many elements, each as long
abbrev pub SameLengths : Elements → Elements → Type 0
SameLengths before after = map length after ≡ map length before

-- an encoding, and an inverse where there is one, has as many elements, each as long
pub record KeepsLengths (coding : ArrayCoding) : Type 0 where
  pub encoded : (elements : Elements) → SameLengths elements (coding.encoding elements)
  pub decoded : (elements : Elements) → IfSome (coding.decoding elements) (SameLengths elements)
