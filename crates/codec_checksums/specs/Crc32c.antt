-- The codec `crc32c`: bytes, and behind them the four bytes of their checksum.
use Rattle.std.specs.Int.{w32, to_le_bytes}
use Rattle.parts_errors.specs.Words.{Bytes}
use Rattle.codec_chains.specs.Codings.{Coding}
use Rattle.codec_chains.specs.Trailers.{trailer_coding}
use Rattle.codec_checksums.specs.Castagnoli.{checksum}

-- the bytes of the checksum, the least significant first
abbrev pub checksum_bytes : Bytes → Bytes
checksum_bytes bytes = to_le_bytes w32 (checksum bytes)

-- what the codec means
abbrev pub crc32c_coding : Coding
crc32c_coding = trailer_coding 4 checksum_bytes
