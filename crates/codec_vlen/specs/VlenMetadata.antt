-- The metadata of the codec for elements that have lengths of their own: it has no configuration, or an empty one.
use Rattle.std.specs.Prelude.{Bool, false, Option, Some, None, Ok, codes, bytes_eq}
use Rattle.parts_errors.specs.Words.{Bytes}
use Rattle.serde_json.specs.Data.{Data}
use Rattle.codec_metadata.specs.CreateErrors.{Reading}
use Rattle.codec_metadata.specs.Metadata.{members_in, first_refused, unless_refused}
use Rattle.codec_vlen.specs.declared.vlen_codec.VlenCodec.{VlenCodec}

-- the name that is read
abbrev pub is_vlen_name : Bytes → Bool
is_vlen_name name = bytes_eq name (codes "zarr_parts.vlen")

-- no member may be in a configuration
abbrev pub is_vlen_member : Bytes → Data → Bool
is_vlen_member key d = false

-- the codec of a configuration, or of none
abbrev pub vlen_configured : Option Data → Reading VlenCodec
vlen_configured None = Ok (record {})
vlen_configured (Some d) = unless_refused (first_refused is_vlen_member (members_in d)) (Ok (record {}))
