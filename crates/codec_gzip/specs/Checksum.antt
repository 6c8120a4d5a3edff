-- The checksum CRC-32 (RFC 1952, 2.3.1 and 8).
use Rattle.std.specs.Prelude.{ℕ}
use Rattle.codec_compression.specs.Bits.{Bytes}
use Rattle.codec_checksums.specs.Checksum.{crc}

-- x^26 + x^23 + x^22 + x^16 + x^12 + x^11 + x^10 + x^8 + x^7 + x^5 + x^4 + x^2 + x + 1, which is x^32
abbrev pub gzip_polynomial : ℕ
gzip_polynomial = 0xEDB88320

abbrev pub crc32 : Bytes → ℕ
crc32 bytes = crc gzip_polynomial bytes
