-- The codecs that the metadata of an array names.
use Rattle.std.specs.Prelude.{◌≡◌, ℕ, Bool, true, false, Option, Ok, Err, Some, None, List, length, option_and_then}
use Rattle.std.specs.Prelude.{codes, bytes_eq}
use Rattle.serde_json.specs.Data.{Data, Items}
use Rattle.codec_metadata.specs.CreateErrors.{Reading, and_then, bad_field}
use Rattle.codec_metadata.specs.Metadata.{codec_of}
use Rattle.sharding_codec.specs.declared.codec.ShardingCodec.{ShardingCodec}
use Rattle.sharding_codec.specs.ShardMetadata.{shard_configured}
use Rattle.sharding_configuration.specs.Configuration.{shape_in}
use Rattle.array_codecs.specs.AxisOrders.{permuted}
use Rattle.array_codecs.specs.declared.element_codec.ElementCodec.{ElementCodec}
use Rattle.array_codecs.specs.ElementCodecsMetadata.{Arranged, arranged_in, elements_in}
use Rattle.array_fields.specs.MetadataFields.{configured_in}
use Rattle.array_codecs.specs.Transposes.{transpose_in, transpose_before, untransposed}
use Rattle.array_metadata.specs.declared.inner_codec.InnerCodec.{InnerCodec}
use Rattle.array_metadata.specs.declared.inner_codec.InnerCodec.TheVariants.{Elements, Shards, Opaque}
use Rattle.array_metadata.specs.declared.array_codec.ArrayCodec.{ArrayCodec}
use Rattle.array_metadata.specs.declared.array_codec.ArrayCodec.TheVariants.{Sharded, Transposed, Unsharded}
use Rattle.array_codecs.specs.UnreadCodecs.{sole_shards, shards_of, innermost, unserved_in, have_names}

-- the codec of the name `sharding_indexed`, by how the list of its subchunks' codecs is read
abbrev pub shards_in : {I : Type 0} → (Items → Reading I) → Data → Reading (ShardingCodec I ElementCodec)
shards_in inner_in = codec_of (bytes_eq (codes "sharding_indexed")) (λ name. shard_configured inner_in elements_in)

-- the codec that is looked into of subchunks that a list names: of shards where it is such a list, else of elements
abbrev pub shards_or : ℕ → Option Data → Reading Arranged → Reading InnerCodec
shards_or axes (Some d) elements = and_then (shards_in (arranged_in axes) d) (λ shards. Ok (Shards shards))
shards_or axes None elements = and_then elements (λ codec. Ok (Elements codec))

abbrev pub served_in : ℕ → Items → Reading InnerCodec
served_in axes list = shards_or axes (sole_shards list) (arranged_in axes list)

-- a codec that is not looked into, where each codec of a list has a name
abbrev pub opaque_if : Bool → Reading InnerCodec
opaque_if true = Ok (Opaque (record {}))
opaque_if false = Err (bad_field (codes "codecs"))

-- the codec of subchunks that a list names: where elements go through a codec that is not served, one that isn't looked into
abbrev pub served_or : Option (List ℕ) → Bool → Reading InnerCodec → Reading InnerCodec
served_or None named served = served
served_or (Some name) named served = opaque_if named

abbrev pub subchunks_in : ℕ → Items → Reading InnerCodec
subchunks_in axes list =
    served_or (unserved_in (untransposed (codes "bytes") (innermost list))) (have_names (innermost list)) (served_in axes list)

-- and of shards behind `transpose`
abbrev pub opaque_in : Items → Reading InnerCodec
opaque_in list = opaque_if (have_names (innermost list))

-- the codec of shards in an array with this number of axes, by the metadata of `transpose` before it
abbrev pub chunk_shards_or : ℕ → Option Data → Data → Reading ArrayCodec
chunk_shards_or axes None d = and_then (shards_in (subchunks_in axes) d) (λ shards. Ok (Sharded shards))
chunk_shards_or axes (Some transpose) d =
    and_then (transpose_in axes transpose) (λ order. and_then (shards_in opaque_in d) (λ shards.
    Ok (Transposed (record { order = order; codec = shards }))))

-- the codec of the chunks of an array with this number of axes that a list names: of shards where it names these alone or behind
-- `transpose`, else of elements
abbrev pub chunks_or : ℕ → Option Data → Option Data → Reading Arranged → Reading ArrayCodec
chunks_or axes transpose (Some d) elements = chunk_shards_or axes transpose d
chunks_or axes transpose None elements = and_then elements (λ codec. Ok (Unsharded codec))

abbrev pub array_codec_in : ℕ → Items → Reading ArrayCodec
array_codec_in axes list = chunks_or axes (transpose_before (codes "sharding_indexed") list) (shards_of list) (arranged_in axes list)

-- the shape of a subchunk, by the metadata of shards; a chunk that is no shard is one subchunk
abbrev pub subchunk_in : Option Data → List ℕ → Option (List ℕ)
subchunk_in (Some shards) chunk = option_and_then shape_in (configured_in (codes "chunk_shape") shards)
subchunk_in None chunk = Some chunk

-- and by the codec of chunks
abbrev pub subchunk_of : ArrayCodec → List ℕ → List ℕ
subchunk_of (Sharded shards) chunk = shards.subchunk_shape
subchunk_of (Transposed transposed) chunk = transposed.codec.subchunk_shape
subchunk_of (Unsharded codec) chunk = chunk

-- the shape in which chunks of a shape are cut into subchunks: behind `transpose` that of the transposed chunk
abbrev pub encoded_of : ArrayCodec → List ℕ → List ℕ
encoded_of (Sharded shards) chunk = chunk
encoded_of (Transposed transposed) chunk = permuted transposed.order chunk
encoded_of (Unsharded codec) chunk = chunk

-- the codec of chunks has this number of axes, where it says how many
abbrev pub HasAxes : ℕ → ArrayCodec → Type 0
HasAxes axes (Sharded shards) = length shards.subchunk_shape ≡ axes
HasAxes axes (Transposed transposed) = (length transposed.codec.subchunk_shape ≡ axes) × (length transposed.order ≡ axes)
HasAxes axes (Unsharded codec) = Unit {0}

-- `transpose` stands before the shards
abbrev pub are_transposed : ArrayCodec → Bool
are_transposed (Transposed transposed) = true
are_transposed (Sharded shards) = false
are_transposed (Unsharded codec) = false
