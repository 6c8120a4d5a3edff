-- A codec that takes each byte of an array from 255.
use Rattle.std.specs.Prelude.{ℕ, Some, map, bit_xor}
use Rattle.parts_errors.specs.Words.{Elements}
use Rattle.codec_chains.specs.ArrayCodings.{ArrayCoding}

-- a byte taken from 255: each of its bits turned over
abbrev pub inverted_byte : ℕ → ℕ
inverted_byte b = bit_xor b 255

-- elements with each byte taken from 255
unfoldable pub inverted_elements : Elements → Elements
inverted_elements elements = map (map inverted_byte) elements

-- what the codec means
abbrev pub inverted_coding : ArrayCoding
inverted_coding = record { encoding = inverted_elements; decoding = λ elements. Some (inverted_elements elements) }
