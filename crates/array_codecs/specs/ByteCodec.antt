-- One of the codecs from bytes to bytes that are served.
use Rattle.std.proofs.Common.{refl}
use Rattle.codec_chains.specs.Codings.{Coding, IsInvertible, IsBounded}
use Rattle.codec_chains.specs.TrailerLaws.{trailer_invertible, trailer_bounded}
use Rattle.codec_checksums.specs.Crc32c.{checksum_bytes, crc32c_coding}
use Rattle.codec_gzip.specs.GzipCoding.{gzip_coding}
use Rattle.codec_gzip.specs.GzipLaws.{gzip_bounded}
use Rattle.codec_gzip.specs.ZlibCoding.{zlib_coding}
use Rattle.codec_gzip.specs.ZlibLaws.{zlib_bounded}
use Rattle.codec_zstd.specs.ZstdCoding.{zstd_coding}
use Rattle.codec_zstd.specs.ZstdLaws.{zstd_bounded}
use Rattle.array_codecs.specs.declared.byte_codec.ByteCodec.{ByteCodec}
use Rattle.array_codecs.specs.declared.byte_codec.ByteCodec.TheVariants.{Crc32c, Gzip, Zlib, Zstd}

-- what it means: what the codec that it holds means
abbrev pub byte_coding : ByteCodec → Coding
byte_coding (Crc32c codec) = crc32c_coding
byte_coding (Gzip codec) = gzip_coding
byte_coding (Zlib codec) = zlib_coding
byte_coding (Zstd codec) = zstd_coding

pub byte_invertible : (codec : ByteCodec) → IsInvertible (byte_coding codec)
byte_invertible (Crc32c codec) = trailer_invertible 4 checksum_bytes (λ _. refl)
byte_invertible (Gzip codec) = λ b encoded h. h.0
byte_invertible (Zlib codec) = λ b encoded h. h.0
byte_invertible (Zstd codec) = λ b encoded h. h.0

pub byte_bounded : (codec : ByteCodec) → IsBounded (byte_coding codec)
byte_bounded (Crc32c codec) = trailer_bounded 4 checksum_bytes (λ _. refl)
byte_bounded (Gzip codec) = gzip_bounded
byte_bounded (Zlib codec) = zlib_bounded
byte_bounded (Zstd codec) = zstd_bounded
