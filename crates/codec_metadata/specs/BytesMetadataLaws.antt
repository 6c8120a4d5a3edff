-- What the codec `bytes` writes is read as the codec.
use Rattle.std.specs.Prelude.{◌≡◌, Option, Some, None, Ok, option_map, refl}
use Rattle.serde_json.specs.Data.{object}
use Rattle.codec_bytes.specs.declared.bytes_codec.Endianness.{Endianness}
use Rattle.codec_bytes.specs.declared.bytes_codec.Endianness.TheVariants.{Little, Big}
use Rattle.codec_metadata.specs.BytesMetadata.{bytes_configured, bytes_written}

pub bytes_remembers : (codec : Option Endianness) → bytes_configured (option_map object (bytes_written codec)) ≡ Ok codec
bytes_remembers None = refl
bytes_remembers (Some Little) = refl
bytes_remembers (Some Big) = refl
