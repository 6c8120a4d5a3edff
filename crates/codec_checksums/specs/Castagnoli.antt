-- The checksum CRC-32C: the remainder of a division by the polynomial of Castagnoli.
use Rattle.std.specs.Prelude.{ℕ}
use Rattle.parts_errors.specs.Words.{Bytes}
use Rattle.codec_checksums.specs.Checksum.{crc}

-- x^28 + x^27 + x^26 + x^25 + x^23 + x^22 + x^20 + x^19 + x^18 + x^14 + x^13 + x^11 + x^10 + x^9 + x^8 + x^6 + 1, which is x^32
abbrev pub castagnoli : ℕ
castagnoli = 0x82F63B78

abbrev pub checksum : Bytes → ℕ
checksum bytes = crc castagnoli bytes
