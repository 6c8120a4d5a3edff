-- The metadata of the codec that an array has where none is asked for: that of the codec that it holds.
use Rattle.std.specs.Prelude.{Bool, ◌||◌, Option, None, Ok, if◌then◌else◌, codes, bytes_eq}
use Rattle.parts_errors.specs.Words.{Bytes as Text}
use Rattle.serde_json.specs.Data.{Data, Members}
use Rattle.codec_metadata.specs.CreateErrors.{Reading, and_then}
use Rattle.codec_metadata.specs.BytesMetadata.{is_bytes_name, bytes_configured, bytes_written}
use Rattle.codec_vlen.specs.VlenMetadata.{is_vlen_name, vlen_configured}
use Rattle.codec_vlen.specs.declared.default_codec.DefaultArrayToBytesCodec.{DefaultArrayToBytesCodec}
use Rattle.codec_vlen.specs.declared.default_codec.DefaultArrayToBytesCodec.TheVariants.{Bytes, Vlen}

-- the names that are read: those of either codec
abbrev pub is_default_name : Text → Bool
is_default_name name = is_bytes_name name || is_vlen_name name

-- the name that is written
abbrev pub default_name : DefaultArrayToBytesCodec → Text
default_name (Bytes codec) = codes "bytes"
default_name (Vlen codec) = codes "zarr_parts.vlen"

-- the codec that has the name, of the configuration
abbrev pub default_configured : Text → Option Data → Reading DefaultArrayToBytesCodec
default_configured name configuration =
    if is_vlen_name name then and_then (vlen_configured configuration) (λ codec. Ok (Vlen codec))
    else and_then (bytes_configured configuration) (λ codec. Ok (Bytes codec))

-- the configuration that is written
abbrev pub default_written : DefaultArrayToBytesCodec → Option Members
default_written (Bytes codec) = bytes_written codec
default_written (Vlen codec) = None
