-- The codec that an array has where none is asked for.
use Rattle.std.specs.Prelude.{◌≡◌, Some}
use Rattle.parts_errors.specs.Words.{Bytes as Text, Elements}
use Rattle.parts_arrays.specs.ArraySpec.{ArraySpec}
use Rattle.parts_arrays.specs.declared.data_type.DataType.{DataType}
use Rattle.parts_arrays.specs.declared.data_type.DataType.TheVariants as type
use Rattle.codec_traits.specs.Meanings.{Meaning}
use Rattle.codec_traits.specs.Laws.{IsLawful}
use Rattle.codec_bytes.specs.declared.bytes_codec.Endianness.TheVariants.{Little}
use Rattle.codec_bytes.specs.BytesCodec.{bytes_meaning, bytes_of}
use Rattle.codec_bytes.specs.BytesCodecLaws.{bytes_lawful}
use Rattle.codec_vlen.specs.Text.{vlen_text}
use Rattle.codec_vlen.specs.VlenCodec.{vlen_meaning}
use Rattle.codec_vlen.specs.VlenLaws.{vlen_lawful}
use Rattle.codec_vlen.specs.declared.vlen_codec.VlenCodec.{VlenCodec}
use Rattle.codec_vlen.specs.declared.default_codec.DefaultArrayToBytesCodec.{DefaultArrayToBytesCodec}
use Rattle.codec_vlen.specs.declared.default_codec.DefaultArrayToBytesCodec.TheVariants.{Bytes, Vlen}

-- the codec of a type
abbrev pub default_codec_of : DataType → DefaultArrayToBytesCodec
default_codec_of type.Bytes = Vlen (record {})
default_codec_of _ = Bytes (Some Little)

-- what it means: what the codec that it holds means
abbrev pub default_meaning : DefaultArrayToBytesCodec → ArraySpec → Meaning
default_meaning (Bytes codec) g = bytes_meaning codec g
default_meaning (Vlen codec) g = vlen_meaning g

-- the encoding of an array
abbrev pub default_encoding : DefaultArrayToBytesCodec → ArraySpec → Elements → Text
default_encoding (Bytes codec) g elements = bytes_of codec g elements
default_encoding (Vlen codec) g elements = vlen_text elements

-- the codecs that it may hold keep the laws
pub default_lawful : (codec : DefaultArrayToBytesCodec) (g : ArraySpec) → IsLawful g (default_meaning codec g)
default_lawful (Bytes codec) g = bytes_lawful codec g
default_lawful (Vlen codec) g = vlen_lawful g

-- and encode an array in one way
pub default_one_encoding : (codec : DefaultArrayToBytesCodec) (g : ArraySpec) (elements : Elements) (b : Text)
    → (default_meaning codec g).written elements b → b ≡ default_encoding codec g elements
default_one_encoding (Bytes codec) g elements b written = written
default_one_encoding (Vlen codec) g elements b written = written.text
