-- What a codec from bytes to bytes means. Bytes may have many encodings, as those of a compressor have.
use Rattle.std.specs.Prelude.{◌≡◌, ◌<◌, ◌^◌, Option, Some, length}
use Rattle.parts_errors.specs.Words.{Bytes}
use Rattle.codec_traits.specs.declared.representation.BytesRepresentation.{BytesRepresentation}
use Rattle.codec_traits.specs.declared.representation.BytesRepresentation.TheVariants.{UnboundedSize}
use Rattle.codec_traits.specs.Representations.{IsWithin}

pub record Coding : Type 1 where
  -- the second bytes are an encoding of the first
  pub written : Bytes → Bytes → Type 0
  -- the bytes that these are an encoding of, or none
  pub decoding : Bytes → Option Bytes
  -- how long the encodings are of bytes that are as long as is told
  pub representation : BytesRepresentation → BytesRepresentation

-- an encoding gives the bytes back
abbrev pub IsInvertible : Coding → Type 0
IsInvertible coding = (b encoded : Bytes) → coding.written b encoded → coding.decoding encoded ≡ Some b

-- an encoding is as long as is told where the bytes are; where nothing is told of them, nothing is told of it
pub record IsBounded (coding : Coding) : Type 0 where
  pub unbounded : coding.representation UnboundedSize ≡ UnboundedSize
  pub within : (told : BytesRepresentation) (b encoded : Bytes) → IsWithin (Some told) (length b) → coding.written b encoded
      → IsWithin (Some (coding.representation told)) (length encoded)

-- all encodings of the bytes can be addressed
abbrev pub AreAddressable : Coding → Bytes → Type 0
AreAddressable coding b = (encoded : Bytes) → coding.written b encoded → length encoded < 2 ^ 64
