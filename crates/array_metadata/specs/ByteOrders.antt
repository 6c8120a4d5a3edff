-- The byte order of complex numbers and of texts in UTF-32, which the codecs take as bytes and so do not turn.
use Rattle.std.specs.Prelude.{ℕ, Option, Some, None}
use Rattle.codec_bytes.specs.declared.bytes_codec.Endianness.{Endianness}
use Rattle.codec_bytes.specs.declared.bytes_codec.Endianness.TheVariants.{Big, Little}
use Rattle.codec_vlen.specs.declared.default_codec.DefaultArrayToBytesCodec.{DefaultArrayToBytesCodec}
use Rattle.codec_vlen.specs.declared.default_codec.DefaultArrayToBytesCodec.TheVariants.{Bytes, Vlen}
use Rattle.codec_chains.specs.declared.either_codec.EitherCodec.TheVariants.{First, Second}
use Rattle.array_codecs.specs.declared.element_codec.ElementCodec.{ElementCodec}
use Rattle.array_codecs.specs.declared.element_codec.ElementCodec.TheVariants.{Alone, Chain}
use Rattle.array_codecs.specs.ElementCodecsMetadata.{Arranged}
use Rattle.array_metadata.specs.declared.inner_codec.InnerCodec.{InnerCodec}
use Rattle.array_metadata.specs.declared.inner_codec.InnerCodec.TheVariants.{Elements, Shards, Opaque}
use Rattle.array_metadata.specs.declared.array_codec.ArrayCodec.{ArrayCodec}
use Rattle.array_metadata.specs.declared.array_codec.ArrayCodec.TheVariants.{Sharded, Transposed, Unsharded}
use Rattle.array_fields.specs.ElementTypes.{float_size}
use Rattle.array_fields.specs.declared.element_types.ElementType.{ElementType}
use Rattle.array_fields.specs.declared.element_types.ElementType.TheVariants.{Complex, Utf32}

-- the byte order that the first codec of elements has, where it is `bytes`
abbrev pub first_order : DefaultArrayToBytesCodec → Option Endianness
first_order (Bytes bytes) = bytes
first_order (Vlen codec) = None

abbrev pub order_of : ElementCodec → Option Endianness
order_of (Alone codec) = first_order codec
order_of (Chain chain) = first_order chain.array_to_bytes

abbrev pub arranged_order : Arranged → Option Endianness
arranged_order (First elements) = order_of elements
arranged_order (Second transposed) = order_of transposed.codec

abbrev pub subchunks_order : InnerCodec → Option Endianness
subchunks_order (Elements elements) = arranged_order elements
subchunks_order (Shards shards) = arranged_order shards.inner
subchunks_order (Opaque opaque) = None

abbrev pub chunks_order : ArrayCodec → Option Endianness
chunks_order (Sharded shards) = subchunks_order shards.inner
chunks_order (Transposed transposed) = subchunks_order transposed.codec.inner
chunks_order (Unsharded elements) = arranged_order elements

-- how many bytes each part has of elements whose parts are stored most significant byte first
abbrev pub size_if_big : ℕ → Option Endianness → Option ℕ
size_if_big size None = None
size_if_big size (Some Little) = None
size_if_big size (Some Big) = Some size

abbrev pub reversed_size : ElementType → Option Endianness → Option ℕ
reversed_size (Complex format) order = size_if_big (float_size format) order
reversed_size (Utf32 size) order = size_if_big 4 order
reversed_size element_type order = None
