-- Codecs from bytes to bytes that put a trailer behind the bytes: as many bytes more, always, which the bytes give.
use Rattle.std.specs.Prelude.{◌≡◌, ◌+◌, ◌-◌, ◌^◌, ◌++◌, ℕ, if◌then◌else◌, nat_lt, Option, Some, None, length, take, bytes_eq}
use Rattle.parts_errors.specs.Words.{Bytes}
use Rattle.codec_traits.specs.declared.representation.BytesRepresentation.{BytesRepresentation}
use Rattle.codec_traits.specs.declared.representation.BytesRepresentation.TheVariants.{FixedSize, BoundedSize, UnboundedSize}
use Rattle.codec_chains.specs.Codings.{Coding}

-- the bytes with their trailer behind them
abbrev pub with_trailer : (Bytes → Bytes) → Bytes → Bytes
with_trailer trailer bytes = bytes ++ trailer bytes

-- all bytes but the last ones, as many as a trailer has
abbrev pub before_trailer : ℕ → Bytes → Bytes
before_trailer size b = take (length b - size) b

-- the bytes that stand before a trailer, where it is theirs
unfoldable pub without_trailer : ℕ → (Bytes → Bytes) → Bytes → Option Bytes
without_trailer size trailer b =
    let bytes = before_trailer size b in
    if bytes_eq (with_trailer trailer bytes) b then Some bytes else None

-- how long bytes are that are longer by so many
abbrev pub longer_by : ℕ → BytesRepresentation → BytesRepresentation
longer_by size (FixedSize n) = if nat_lt (n + size) (2 ^ 64) then FixedSize (n + size) else UnboundedSize
longer_by size (BoundedSize n) = if nat_lt (n + size) (2 ^ 64) then BoundedSize (n + size) else UnboundedSize
longer_by size UnboundedSize = UnboundedSize

-- what such a codec means
abbrev pub trailer_coding : ℕ → (Bytes → Bytes) → Coding
trailer_coding size trailer = record {
  written = λ bytes encoded. encoded ≡ with_trailer trailer bytes;
  decoding = without_trailer size trailer;
  representation = longer_by size;
}
