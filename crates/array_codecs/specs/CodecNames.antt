-- Codecs that lists of metadata name.
use Rattle.std.specs.Prelude.{◌≡◌, ◌⊎◌, List, [], ◌∷◌, codes, map}
use Rattle.serde_json.specs.Data.{Data, Items}
use Rattle.serde_json.specs.View.{view, items_of}
use Rattle.parts_errors.specs.Words.{Bytes as Text}
use Rattle.array_fields.specs.MetadataFields.{Names}
use Rattle.array_codecs.specs.declared.codec_list.CodecName.{CodecName}
use Rattle.array_codecs.specs.declared.codec_list.CodecName.TheVariants.{Bytes, VlenUtf8, VlenBytes, Crc32c, Gzip, Zlib, Zstd}
use Rattle.array_codecs.specs.declared.codec_list.CodecName.TheVariants.{ShardingIndexed}
use Rattle.array_codecs.specs.declared.codec_list.NamedCodec.{NamedCodec}

-- the name of a codec that is served
abbrev pub codec_name : CodecName → Text
codec_name Bytes = codes "bytes"
codec_name VlenUtf8 = codes "vlen-utf8"
codec_name VlenBytes = codes "vlen-bytes"
codec_name Crc32c = codes "crc32c"
codec_name Gzip = codes "gzip"
codec_name Zlib = codes "numcodecs.zlib"
codec_name Zstd = codes "zstd"
codec_name ShardingIndexed = codes "sharding_indexed"

-- a codec of elements that have lengths of their own
abbrev pub IsVlenCodec : CodecName → Type 0
IsVlenCodec name = (name ≡ VlenUtf8) ⊎ (name ≡ VlenBytes)

-- a codec of elements that is served
abbrev pub IsFirstCodec : CodecName → Type 0
IsFirstCodec name = (name ≡ Bytes) ⊎ IsVlenCodec name

-- a codec from bytes to bytes that is served
abbrev pub IsByteCodec : CodecName → Type 0
IsByteCodec name = (name ≡ Crc32c) ⊎ (name ≡ Gzip) ⊎ (name ≡ Zlib) ⊎ (name ≡ Zstd)

-- one to three of them
abbrev pub AreByteCodecs : List NamedCodec → Type 0
AreByteCodecs (first ∷ []) = IsByteCodec first.name
AreByteCodecs (first ∷ second ∷ []) = IsByteCodec first.name × IsByteCodec second.name
AreByteCodecs (first ∷ second ∷ third ∷ []) = IsByteCodec first.name × IsByteCodec second.name × IsByteCodec third.name
AreByteCodecs codecs = ⊥

abbrev pub metadata_of : NamedCodec → Data
metadata_of codec = view codec.metadata.value.now

abbrev pub IsNamed : NamedCodec → Type 0
IsNamed codec = Names (metadata_of codec) (codec_name codec.name)

-- the list of the metadata of codecs
abbrev pub listed : List NamedCodec → Items
listed codecs = items_of (map metadata_of codecs)
