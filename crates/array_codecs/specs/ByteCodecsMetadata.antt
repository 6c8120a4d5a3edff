-- Codecs from bytes to bytes that metadata names.
use Rattle.std.specs.Prelude.{◌≡◌, ℕ, ℤ, pos, neg_ℤ, int_le, Bool, false, ◌&&◌, Option, Ok, Err, Some, None, codes, bytes_eq, nat_le}
use Rattle.std.specs.Prelude.{if◌then◌else◌, option_and_then}
use Rattle.serde_json.specs.Data.{Data, Items, no_items, item}
use Rattle.serde_json.specs.Find.{get, as_bool}
use Rattle.codec_metadata.specs.CreateErrors.{Reading, and_then, or_refused, unsupported_chain, bad_field}
use Rattle.codec_metadata.specs.Metadata.{codec_of}
use Rattle.codec_checksums.specs.declared.crc32c_codec.Crc32cCodec.{Crc32cCodec}
use Rattle.codec_gzip.specs.declared.codec.GzipCodec.{GzipCodec}
use Rattle.codec_gzip.specs.declared.zlib_streams.codec.ZlibCodec.{ZlibCodec}
use Rattle.codec_zstd.specs.declared.codec.ZstdCodec.{ZstdCodec}
use Rattle.array_codecs.specs.declared.byte_codec.ByteCodec.{ByteCodec}
use Rattle.array_codecs.specs.declared.byte_codec.ByteCodec.TheVariants.{Crc32c, Gzip, Zlib, Zstd}
use Rattle.array_codecs.specs.declared.byte_codecs.ByteCodecs.{ByteCodecs}
use Rattle.array_codecs.specs.declared.codec_list.NamedCodec.{NamedCodec}
use Rattle.array_codecs.specs.CodecNames.{metadata_of}
use Rattle.array_fields.specs.MetadataFields.{whole_number_in, integer_in, is_named}

-- the codec of the name `crc32c`
abbrev pub crc32c_in : Data → Reading Crc32cCodec
crc32c_in = codec_of (bytes_eq (codes "crc32c")) (λ name configuration. Ok (record {}))

-- a level: a whole number of at most 9
abbrev pub level_of : Data → Option ℕ
level_of d = option_and_then (λ level. if nat_le level 9 then Some level else None) (whole_number_in d)

-- the level of a configuration
abbrev pub level_in : Data → Option ℕ
level_in d = option_and_then level_of (get (codes "level") d)

-- the codec of the name `gzip`
abbrev pub gzip_configured : Option Data → Reading GzipCodec
gzip_configured d = or_refused (option_and_then level_in d) (bad_field (codes "level")) (λ level. Ok (record { level = level }))

abbrev pub gzip_in : Data → Reading GzipCodec
gzip_in = codec_of (bytes_eq (codes "gzip")) (λ name. gzip_configured)

-- the level of a `numcodecs.zlib` configuration; 1 where nothing is said, as numcodecs has it
abbrev pub zlib_level_in : Option Data → Option ℕ
zlib_level_in None = Some 1
zlib_level_in (Some d) = level_of d

-- the codec of the name `numcodecs.zlib`
abbrev pub zlib_configured : Option Data → Reading ZlibCodec
zlib_configured d =
    or_refused (option_and_then (λ configuration. zlib_level_in (get (codes "level") configuration)) d)
    (bad_field (codes "level")) (λ level. Ok (record { level = level }))

abbrev pub zlib_in : Data → Reading ZlibCodec
zlib_in = codec_of (bytes_eq (codes "numcodecs.zlib")) (λ name. zlib_configured)

-- the level of a `zstd` configuration: a whole number from -131072 to 22
abbrev pub is_zstd_level : ℤ → Bool
is_zstd_level level = int_le (neg_ℤ (pos 131072)) level && int_le level (pos 22)

abbrev pub zstd_level_of : Data → Option ℤ
zstd_level_of d = option_and_then (λ level. if is_zstd_level level then Some level else None) (integer_in d)

-- whether a `zstd` configuration asks for checksums; not where nothing is said
abbrev pub checksum_in : Option Data → Option Bool
checksum_in None = Some false
checksum_in (Some d) = as_bool d

-- the codec of the name `zstd`
abbrev pub zstd_configured : Option Data → Reading ZstdCodec
zstd_configured d =
    or_refused (option_and_then zstd_level_of (option_and_then (get (codes "level")) d)) (bad_field (codes "level")) (λ level.
    or_refused (checksum_in (option_and_then (get (codes "checksum")) d)) (bad_field (codes "checksum")) (λ checksum.
    Ok (record { level = level; checksum = checksum })))

abbrev pub zstd_in : Data → Reading ZstdCodec
zstd_in = codec_of (bytes_eq (codes "zstd")) (λ name. zstd_configured)

-- the codec from bytes to bytes of metadata, by its name
abbrev pub byte_codec_in : Data → Reading ByteCodec
byte_codec_in d =
    if is_named (codes "zstd") d then and_then (zstd_in d) (λ codec. Ok (Zstd codec))
    else if is_named (codes "gzip") d then and_then (gzip_in d) (λ codec. Ok (Gzip codec))
    else if is_named (codes "numcodecs.zlib") d then and_then (zlib_in d) (λ codec. Ok (Zlib codec))
    else and_then (crc32c_in d) (λ codec. Ok (Crc32c codec))

-- what is read of metadata that may be there
abbrev pub IsOptionalCodec : Option NamedCodec → Option ByteCodec → Type 0
IsOptionalCodec None found = found ≡ None
IsOptionalCodec (Some codec) found = (read : ByteCodec) × (byte_codec_in (metadata_of codec) ≡ Ok read) × (found ≡ Some read)

-- a list of one to three codecs from bytes to bytes
abbrev pub byte_codecs_in : Items → Reading ByteCodecs
byte_codecs_in no_items = Err unsupported_chain
byte_codecs_in (item d no_items) = and_then (byte_codec_in d) (λ first. Ok (record { first = first; second = None; third = None }))
byte_codecs_in (item d (item e no_items)) =
    and_then (byte_codec_in d) (λ first. and_then (byte_codec_in e) (λ second.
    Ok (record { first = first; second = Some second; third = None })))
byte_codecs_in (item d (item e (item f no_items))) =
    and_then (byte_codec_in d) (λ first. and_then (byte_codec_in e) (λ second. and_then (byte_codec_in f) (λ third.
    Ok (record { first = first; second = Some second; third = Some third }))))
byte_codecs_in (item d (item e (item f (item g later)))) = Err unsupported_chain
