-- The checksum Adler-32 (RFC 1950, 2.2 and 8.2).
use Rattle.std.specs.Prelude.{ℕ, ◌+◌, ◌*◌, ◌%◌, fold}
use Rattle.codec_compression.specs.Bits.{Bytes}
use Rattle.codec_gzip.specs.declared.zlib_streams.adler.Sums.{Sums}

-- the largest prime below 2^16
abbrev pub base : ℕ
base = 65521

-- the sums after a byte more: s1 is the sum of all bytes, and s2 the sum of all s1 values
unfoldable pub after_byte : Sums → ℕ → Sums
after_byte sums byte =
    let s1 = (sums.s1 + byte) % base in
    record { s1 = s1; s2 = (sums.s2 + s1) % base }

-- the sums at first
abbrev pub first_sums : Sums
first_sums = record { s1 = 1; s2 = 0 }

abbrev pub adler32 : Bytes → ℕ
adler32 bytes =
    let sums = fold after_byte first_sums bytes in
    sums.s2 * 65536 + sums.s1
