-- What a gzip file stands for (RFC 1952, 2.2 and 2.3).
use Rattle.std.specs.Prelude.{ℕ, zero, suc, ◌-◌, ◌/◌, ◌%◌, ◌^◌, ◌++◌, ◌==◌, nat_le, nat_lt, true, false, [], ◌∷◌, Option, Some, None}
use Rattle.std.specs.Prelude.{length, take, drop, slice_index, bytes_eq}
use Rattle.std.specs.Int.{w16, w32, to_le_bytes, from_le_bytes}
use Rattle.codec_compression.specs.Options.{◌>>=◌, guard}
use Rattle.codec_compression.specs.Bits.{Bytes}
use Rattle.codec_compression.specs.Parts.{parts}
use Rattle.codec_deflate.specs.Inflate.{inflated}
use Rattle.codec_gzip.specs.Checksum.{crc32}

-- the bytes after n bytes
unfoldable pub after : ℕ → Bytes → Option Bytes
after n bytes = guard (nat_le n (length bytes)) >>= (λ enough. Some (drop n bytes))

-- the bytes after a zero-terminated name or comment
unfoldable pub after_zero : Bytes → Option Bytes
after_zero [] = None
after_zero (zero ∷ bytes) = Some bytes
after_zero (suc byte ∷ bytes) = after_zero bytes

-- the bytes after an extra field: XLEN in two bytes, and XLEN bytes
unfoldable pub after_extra : Bytes → Option Bytes
after_extra bytes = guard (nat_le 2 (length bytes)) >>= (λ enough. after (from_le_bytes w16 (take 2 bytes)) (drop 2 bytes))

-- the bytes after CRC16: the two least significant bytes of the CRC-32 of the header before it
unfoldable pub after_crc16 : Bytes → Bytes → Option Bytes
after_crc16 header bytes = do
  enough ← guard (nat_le 2 (length bytes))
  same ← guard (bytes_eq (take 2 bytes) (to_le_bytes w16 (crc32 (take (length header - length bytes) header) % 2 ^ 16)))
  Some (drop 2 bytes)

-- the bytes after a field that is there only if a flag is set
abbrev pub if_set : ℕ → Option Bytes → Bytes → Option Bytes
if_set flag field bytes = elim (flag % 2 == 1) [ true ↦ field | false ↦ Some bytes ]

-- The bytes after a member's header: ID1, ID2, CM, FLG, and six bytes without a meaning here; then the fields that FLG announces. Its bits
-- are FTEXT, FHCRC, FEXTRA, FNAME and FCOMMENT, from bit 0 on; the others are reserved.
unfoldable pub after_header : Bytes → Option Bytes
after_header header = do
  fields ← after 10 header
  deflate ← guard (bytes_eq (take 3 header) (31 ∷ 139 ∷ 8 ∷ []))
  no_reserved ← guard (nat_lt (slice_index header 3) 32)
  extra ← if_set (slice_index header 3 / 4) (after_extra fields) fields
  name ← if_set (slice_index header 3 / 8) (after_zero extra) extra
  comment ← if_set (slice_index header 3 / 16) (after_zero name) name
  if_set (slice_index header 3 / 2) (after_crc16 header comment) comment

-- the bytes after a trailer: CRC32, and ISIZE, the length of the content modulo 2^32
unfoldable pub after_trailer : Bytes → Bytes → Option Bytes
after_trailer content bytes = do
  rest ← after 8 bytes
  guard (bytes_eq (take 8 bytes) (to_le_bytes w32 (crc32 content) ++ to_le_bytes w32 (length content % 2 ^ 32))) >>= (λ same. Some rest)

-- a member: its content, and the bytes after it
unfoldable pub member_at : Bytes → Option (Bytes × Bytes)
member_at bytes = do
  stream ← after_header bytes
  content ← inflated stream
  rest ← after_trailer content.0 content.1
  Some (content.0, rest)

-- the content of a file: that of its members, one after the other
abbrev pub gunzipped : Bytes → Option Bytes
gunzipped bytes = parts member_at (length bytes) [] bytes
