-- The sharding codec and its configuration, by how its inner codec and its index codec are read from lists and written.
use Rattle.std.specs.Prelude.{Option, Some, None, Ok, Err, codes}
use Rattle.serde_json.specs.Data.{Data, Items, Members, item, no_items}
use Rattle.codec_metadata.specs.CreateErrors.{Reading, and_then, missing_field}
use Rattle.sharding_format.specs.declared.order.SubchunkWriteOrder.TheVariants.{Unordered}
use Rattle.sharding_configuration.specs.Configuration.{Configuration, configuration_in, configuration_written}
use Rattle.sharding_codec.specs.declared.codec.ShardingCodec.{ShardingCodec}

-- the codec of a configuration: its inner codec is read first, and then its index codec
abbrev pub shard_of : {I X : Type 0} → (Items → Reading I) → (Items → Reading X) → Configuration → Reading (ShardingCodec I X)
shard_of inner_of index_of c =
    and_then (inner_of c.codecs) (λ inner.
    and_then (index_of c.index_codecs) (λ index.
    Ok (record { subchunk_shape = c.chunk_shape; inner = inner; index_codec = index; location = c.index_location; order = Unordered })))

-- the codec of the metadata's configuration, which must be there
abbrev pub shard_configured : {I X : Type 0} → (Items → Reading I) → (Items → Reading X) → Option Data → Reading (ShardingCodec I X)
shard_configured inner_of index_of None = Err (missing_field (codes "configuration"))
shard_configured inner_of index_of (Some d) = and_then (configuration_in d) (shard_of inner_of index_of)

-- the codec's configuration, by the metadata of the inner codec and of the index codec
abbrev pub configured_by : {I X : Type 0} → (inner index : Data) → ShardingCodec I X → Configuration
configured_by inner index codec = record {
  chunk_shape = codec.subchunk_shape;
  codecs = item inner no_items;
  index_codecs = item index no_items;
  index_location = codec.location;
}

-- the members that are written
abbrev pub shard_written : {I X : Type 0} → (inner index : Data) → ShardingCodec I X → Members
shard_written inner index codec = configuration_written (configured_by inner index codec)

-- the codec without what its configuration does not tell
abbrev pub shard_told : {I X : Type 0} → I → X → ShardingCodec I X → ShardingCodec I X
shard_told inner index codec = record {
  subchunk_shape = codec.subchunk_shape;
  inner = inner;
  index_codec = index;
  location = codec.location;
  order = Unordered;
}
