-- Lists of codecs from bytes to bytes: each encodes what the one before it gives.
use Rattle.std.specs.Prelude.{◌≡◌, ◌≤◌, ℕ, ◌&&◌, Bool, true, false, Option, Some, None, IsSomeAnd, length, option_and_then}
use Rattle.parts_errors.specs.Words.{Bytes, Refusals}
use Rattle.parts_errors.specs.Order.{◌or◌then◌, done, RefusedBy}
use Rattle.parts_errors.specs.declared.error.CodecError.TheVariants.{Damaged}
use Rattle.codec_chains.specs.Codings.{Coding}
use Rattle.array_codecs.specs.ByteCodec.{byte_coding}
use Rattle.array_codecs.specs.declared.byte_codec.ByteCodec.{ByteCodec}
use Rattle.array_codecs.specs.declared.byte_codec.ByteCodec.TheVariants.{Gzip, Zlib, Zstd}
use Rattle.array_codecs.specs.declared.byte_codecs.ByteCodecs.{ByteCodecs}

-- a codec, and another behind it
abbrev pub followed : Coding → Coding → Coding
followed first second = record {
  written = λ b encoded. (between : Bytes) × (first.written b between) × (second.written between encoded);
  decoding = λ encoded. option_and_then first.decoding (second.decoding encoded);
  representation = λ told. second.representation (first.representation told);
}

-- no codec: the bytes stay as they are
abbrev pub unchanged : Coding
unchanged = record { written = λ b encoded. encoded ≡ b; decoding = Some; representation = λ told. told }

abbrev pub optional_coding : Option ByteCodec → Coding
optional_coding None = unchanged
optional_coding (Some codec) = byte_coding codec

-- what the list means
abbrev pub list_coding : ByteCodecs → Coding
list_coding codecs =
    followed (followed (byte_coding codecs.first) (optional_coding codecs.second)) (optional_coding codecs.third)

-- whether all of them are `crc32c`
abbrev pub is_checksum : Option ByteCodec → Bool
is_checksum (Some (Gzip codec)) = false
is_checksum (Some (Zlib codec)) = false
is_checksum (Some (Zstd codec)) = false
is_checksum codec = true

abbrev pub are_checksums : ByteCodecs → Bool
are_checksums codecs = is_checksum (Some codecs.first) && (is_checksum codecs.second && is_checksum codecs.third)

-- ---- words for the contracts of the functions that decode

-- at most as many as a limit, if there is any
abbrev pub IsAtMost : Option ℕ → ℕ → Type 0
IsAtMost None n = Unit {0}
IsAtMost (Some limit) n = n ≤ limit

-- encodings of bytes within one limit are within another
abbrev pub LimitsEncodings : Coding → Option ℕ → Option ℕ → Type 0
LimitsEncodings coding limit encodings =
    (b encoded : Bytes) → coding.decoding encoded ≡ Some b → IsAtMost limit (length b) → IsAtMost encodings (length encoded)

-- bytes are refused that decode to none within a limit
abbrev pub RefusedOver : Option ℕ → Option Bytes → Refusals
RefusedOver limit decoded = RefusedBy (IsSomeAnd decoded (λ b. IsAtMost limit (length b)) or Damaged then done)
