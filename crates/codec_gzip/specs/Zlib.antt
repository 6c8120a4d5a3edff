-- What a zlib stream stands for (RFC 1950, 2.2).
use Rattle.std.specs.Prelude.{◌+◌, ◌*◌, ◌/◌, ◌%◌, ◌==◌, nat_le, Option, Some, slice_index, bytes_eq}
use Rattle.std.specs.Int.{w32, to_be_bytes}
use Rattle.codec_compression.specs.Options.{◌>>=◌, guard}
use Rattle.codec_compression.specs.Bits.{Bytes}
use Rattle.codec_deflate.specs.Inflate.{inflated}
use Rattle.codec_gzip.specs.Adler.{adler32}
use Rattle.codec_gzip.specs.Gzip.{after}

-- The bytes after CMF and FLG, whose bits are, from bit 0 on, CM and CINFO, and FCHECK, FDICT and FLEVEL. CM is 8 for DEFLATE; CINFO,
-- the base-2 logarithm of the window size less eight, is at most 7; FCHECK makes of CMF * 256 + FLG a multiple of 31; FDICT is not set, as
-- there is no preset dictionary.
unfoldable pub after_flags : Bytes → Option Bytes
after_flags stream = do
  compressed ← after 2 stream
  deflate ← guard (slice_index stream 0 % 16 == 8)
  window ← guard (nat_le (slice_index stream 0 / 16) 7)
  check ← guard ((slice_index stream 0 * 256 + slice_index stream 1) % 31 == 0)
  no_dictionary ← guard (slice_index stream 1 / 32 % 2 == 0)
  Some compressed

-- the content of a stream, which ends with ADLER32, the checksum of the content, the most significant byte first
unfoldable pub zlib_content : Bytes → Option Bytes
zlib_content stream = do
  compressed ← after_flags stream
  content ← inflated compressed
  same ← guard (bytes_eq (content.1) (to_be_bytes w32 (adler32 (content.0))))
  Some (content.0)
