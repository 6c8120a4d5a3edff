-- Gzip files that are written: of one member, with a plain header (RFC 1952, 2.3).
use Rattle.std.specs.Prelude.{ℕ, ◌+◌, ◌*◌, ◌/◌, ◌%◌, ◌^◌, ◌++◌, [], ◌∷◌, length}
use Rattle.std.specs.Int.{w32, to_le_bytes}
use Rattle.codec_compression.specs.Bits.{Bytes}
use Rattle.codec_gzip.specs.Checksum.{crc32}

-- no flags, no time, XFL, an unknown system
abbrev pub plain_header : ℕ → Bytes
plain_header xfl = 31 ∷ 139 ∷ 8 ∷ 0 ∷ 0 ∷ 0 ∷ 0 ∷ 0 ∷ xfl ∷ 255 ∷ []

-- a file of a stream with this content
abbrev pub plain_file : ℕ → Bytes → Bytes → Bytes
plain_file xfl stream content = plain_header xfl
    ++ (stream ++ (to_le_bytes w32 (crc32 content) ++ to_le_bytes w32 (length content % 2 ^ 32)))

-- the greatest length of a file for n bytes
abbrev pub gzip_bound : ℕ → ℕ
gzip_bound n = n + 5 * (n / 65535 + 1) + 18
