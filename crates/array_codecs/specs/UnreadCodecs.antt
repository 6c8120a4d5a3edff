-- Codecs of elements that are not served, by their names.
use Rattle.std.specs.Prelude.{Bool, true, false, not, ◌||◌, ◌&&◌, Option, Some, None, if◌then◌else◌, codes, bytes_eq, is_some, option_map}
use Rattle.std.specs.Prelude.{option_and_then, unwrap_or}
use Rattle.parts_errors.specs.Words.{Bytes}
use Rattle.serde_json.specs.Data.{Data, Items, no_items, item}
use Rattle.serde_json.specs.Find.{as_array}
use Rattle.codec_metadata.specs.Metadata.{name_in, is_metadata_member, first_refused, members_in}
use Rattle.array_fields.specs.MetadataFields.{configured_in}
use Rattle.array_codecs.specs.Transposes.{transpose_before, untransposed}

-- the metadata of the only codec of a list, where its name is `sharding_indexed`
abbrev pub sole_shards : Items → Option Data
sole_shards (item d no_items) = if unwrap_or (option_map (bytes_eq (codes "sharding_indexed")) (name_in d)) false then Some d else None
sole_shards list = None

-- the metadata of the codec of chunks, where a list has that of shards, alone or behind `transpose`
abbrev pub shards_of : Items → Option Data
shards_of list = sole_shards (untransposed (codes "sharding_indexed") list)

abbrev pub chunks_in : Data → Option Data
chunks_in d = option_and_then shards_of (as_array d)

-- the codecs in the configuration of one
abbrev pub configured_codecs : Data → Items
configured_codecs d = unwrap_or (option_and_then as_array (configured_in (codes "codecs") d)) no_items

-- the codecs that elements go through: where a list names shards alone, those in its configuration
abbrev pub elements_or : Items → Option Data → Items
elements_or list None = list
elements_or list (Some d) = configured_codecs d

abbrev pub innermost : Items → Items
innermost list = elements_or list (sole_shards list)

-- the codecs that elements are served with, behind `transpose` or without it
abbrev pub is_element_codec : Bytes → Bool
is_element_codec name = bytes_eq name (codes "bytes") || bytes_eq name (codes "vlen-utf8") || bytes_eq name (codes "vlen-bytes")
    || bytes_eq name (codes "crc32c") || bytes_eq name (codes "gzip") || bytes_eq name (codes "numcodecs.zlib")
    || bytes_eq name (codes "zstd")

-- the name of the first codec that elements are not served with
abbrev pub unserved_or : Option Bytes → Option Bytes → Option Bytes
unserved_or None later = later
unserved_or (Some name) later = if is_element_codec name then later else Some name

abbrev pub unserved_in : Items → Option Bytes
unserved_in no_items = None
unserved_in (item d later) = unserved_or (name_in d) (unserved_in later)

-- metadata has a name, and no members but those that metadata may have
abbrev pub has_name : Data → Bool
has_name d = is_some (name_in d) && not (is_some (first_refused is_metadata_member (members_in d)))

abbrev pub have_names : Items → Bool
have_names no_items = true
have_names (item d later) = has_name d && have_names later

-- the name of the codec for which no subchunk is looked into: `transpose` where it stands before shards, else the first codec that the
-- elements of an array's subchunks go through and are not served with
abbrev pub unread_or : Option Data → Option Data → Option Bytes
unread_or transpose None = None
unread_or (Some d) (Some shards) = Some (codes "transpose")
unread_or None (Some shards) = unserved_in (untransposed (codes "bytes") (innermost (configured_codecs shards)))

abbrev pub unread_codec_in : Option Items → Option Bytes
unread_codec_in None = None
unread_codec_in (Some list) = unread_or (transpose_before (codes "sharding_indexed") list) (shards_of list)
