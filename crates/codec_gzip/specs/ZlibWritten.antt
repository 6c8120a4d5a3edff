-- zlib streams that are written (RFC 1950, 2.2).
use Rattle.std.specs.Prelude.{ℕ, ◌+◌, ◌*◌, ◌/◌, ◌++◌, ◌∷◌}
use Rattle.std.specs.Int.{w32, to_be_bytes}
use Rattle.codec_compression.specs.Bits.{Bytes}
use Rattle.codec_gzip.specs.Adler.{adler32}

-- a stream of compressed data with this content: CMF for a window of 32 KiB, FLG, the data, and the checksum
abbrev pub plain_stream : ℕ → Bytes → Bytes → Bytes
plain_stream flg compressed content = 0x78 ∷ flg ∷ (compressed ++ to_be_bytes w32 (adler32 content))

-- the greatest length of a stream for n bytes
abbrev pub zlib_bound : ℕ → ℕ
zlib_bound n = n + 5 * (n / 65535 + 1) + 6
