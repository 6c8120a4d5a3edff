-- What the codec writes is read as the codec.
use Rattle.std.specs.Prelude.{◌≡◌, true, Some, None, Ok, option_map, refl}
use Rattle.serde_json.specs.Data.{object}
use Rattle.codec_bytes.specs.declared.bytes_codec.Endianness.TheVariants.{Little, Big}
use Rattle.codec_vlen.specs.declared.default_codec.DefaultArrayToBytesCodec.{DefaultArrayToBytesCodec}
use Rattle.codec_vlen.specs.declared.default_codec.DefaultArrayToBytesCodec.TheVariants.{Bytes, Vlen}
use Rattle.codec_vlen.specs.DefaultMetadata.{is_default_name, default_name, default_configured, default_written}

pub default_remembers : (codec : DefaultArrayToBytesCodec)
    → default_configured (default_name codec) (option_map object (default_written codec)) ≡ Ok codec
default_remembers (Bytes None) = refl
default_remembers (Bytes (Some Little)) = refl
default_remembers (Bytes (Some Big)) = refl
default_remembers (Vlen codec) = refl

pub default_names_itself : (codec : DefaultArrayToBytesCodec) → is_default_name (default_name codec) ≡ true
default_names_itself (Bytes codec) = refl
default_names_itself (Vlen codec) = refl
