-- A codec that takes each byte of an array from 255 keeps the laws.
use Rattle.std.proofs.Common.{◌≡◌, ℕ, List, [], ◌∷◌, Some, map, length, refl, ap, ◌∙◌}
use Rattle.std.proofs.lemmas.List.{length-map}
use Rattle.std.specs.Int.Bits.{bit_xor, xor_assoc, xor_self, xor_zero_r}
use Rattle.parts_errors.specs.Words.{Bytes, Elements}
use Rattle.codec_chains.specs.ArrayCodings.{IsInvertible, SameLengths, KeepsLengths}
use Rattle.test_helpers.specs.Inverted.{inverted_byte, inverted_elements, inverted_coding}

twice_byte : (b : ℕ) → inverted_byte (inverted_byte b) ≡ b
twice_byte b = xor_assoc b 255 255 ∙ (ap (bit_xor b) (xor_self 255) ∙ xor_zero_r b)

twice_element : (e : Bytes) → map inverted_byte (map inverted_byte e) ≡ e
twice_element [] = refl
twice_element (b ∷ bs) = rw (twice_byte b, twice_element bs) refl

twice : (es : Elements) → inverted_elements (inverted_elements es) ≡ es
unfolding inverted_elements
twice [] = refl
twice (e ∷ es) = rw (twice_element e, twice es) refl

pub inverted_invertible : IsInvertible inverted_coding
inverted_invertible es = ap Some (twice es)

lengths : (es : Elements) → SameLengths es (inverted_elements es)
unfolding inverted_elements
lengths [] = refl
lengths (e ∷ es) = rw (length-map e inverted_byte, lengths es) refl

pub inverted_keeps : KeepsLengths inverted_coding
inverted_keeps = record { encoded = lengths; decoded = lengths }
