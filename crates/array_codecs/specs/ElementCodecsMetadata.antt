-- The codecs of elements that metadata names.
use Rattle.std.specs.Prelude.{ℕ, ◌||◌, if◌then◌else◌, Option, Ok, Err, Some, None, codes, bytes_eq}
use Rattle.serde_json.specs.Data.{Data, Items, no_items, item}
use Rattle.codec_metadata.specs.CreateErrors.{Reading, and_then, unsupported_chain}
use Rattle.codec_metadata.specs.Metadata.{codec_of}
use Rattle.codec_metadata.specs.BytesMetadata.{bytes_configured}
use Rattle.codec_bytes.specs.declared.bytes_codec.Endianness.{Endianness}
use Rattle.codec_vlen.specs.declared.vlen_codec.VlenCodec.{VlenCodec}
use Rattle.codec_vlen.specs.declared.default_codec.DefaultArrayToBytesCodec.{DefaultArrayToBytesCodec}
use Rattle.codec_vlen.specs.declared.default_codec.DefaultArrayToBytesCodec.TheVariants.{Bytes, Vlen}
use Rattle.codec_chains.specs.declared.either_codec.EitherCodec.{EitherCodec}
use Rattle.codec_chains.specs.declared.either_codec.EitherCodec.TheVariants.{First, Second}
use Rattle.array_fields.specs.MetadataFields.{is_named}
use Rattle.array_codecs.specs.ByteCodecsMetadata.{byte_codecs_in}
use Rattle.array_codecs.specs.Transposes.{transpose_in, transpose_before, untransposed}
use Rattle.array_codecs.specs.declared.element_codec.ElementCodec.{ElementCodec}
use Rattle.array_codecs.specs.declared.element_codec.ElementCodec.TheVariants.{Alone, Chain}
use Rattle.array_codecs.specs.declared.transpose_codec.TransposeCodec.{TransposeCodec}

-- a codec of elements inside a shard: `transpose` stands before it or not
abbrev pub Arranged : Type 0
Arranged = EitherCodec ElementCodec (TransposeCodec ElementCodec)

-- the codec of the name `bytes`
abbrev pub bytes_in : Data → Reading (Option Endianness)
bytes_in = codec_of (bytes_eq (codes "bytes")) (λ name. bytes_configured)

-- the codec of elements that have lengths of their own, which has two names
abbrev pub vlen_in : Data → Reading VlenCodec
vlen_in = codec_of (λ name. bytes_eq name (codes "vlen-utf8") || bytes_eq name (codes "vlen-bytes")) (λ name configuration. Ok (record {}))

-- the codec of elements of metadata, by its name
abbrev pub first_in : Data → Reading DefaultArrayToBytesCodec
first_in d =
    if is_named (codes "bytes") d then and_then (bytes_in d) (λ codec. Ok (Bytes codec))
    else and_then (vlen_in d) (λ codec. Ok (Vlen codec))

-- the codec of elements that a list names
abbrev pub elements_in : Items → Reading ElementCodec
elements_in (item d no_items) = and_then (first_in d) (λ codec. Ok (Alone codec))
elements_in (item d (item e later)) =
    and_then (first_in d) (λ codec. and_then (byte_codecs_in (item e later)) (λ codecs.
    Ok (Chain (record { array_to_bytes = codec; bytes_to_bytes = codecs }))))
elements_in no_items = Err unsupported_chain

-- the codec of elements inside a shard with this number of axes that a list names, by the metadata of `transpose` before it
abbrev pub arranged_or : ℕ → Option Data → Reading ElementCodec → Reading Arranged
arranged_or axes None elements = and_then elements (λ codec. Ok (First codec))
arranged_or axes (Some d) elements =
    and_then (transpose_in axes d) (λ order. and_then elements (λ codec. Ok (Second (record { order = order; codec = codec }))))

abbrev pub arranged_in : ℕ → Items → Reading Arranged
arranged_in axes list = arranged_or axes (transpose_before (codes "bytes") list) (elements_in (untransposed (codes "bytes") list))
