-- The codec of shards, by what its metadata is read as.
use Rattle.std.proofs.Common.{◌≡◌, Option, None, Some, Ok, refl, codes, option_map, ◌∙◌}
use Rattle.serde_json.specs.Data.{Data, Items}
use Rattle.serde_json.specs.Find.{get}
use Rattle.codec_metadata.specs.CreateErrors.{Reading}
use Rattle.sharding_format.specs.declared.order.SubchunkWriteOrder.TheVariants.{Unordered}
use Rattle.sharding_configuration.specs.Configuration.{Configuration, configuration_in}
use Rattle.sharding_codec.specs.ShardMetadata.{shard_of, shard_configured}
use Rattle.array_codecs.specs.declared.element_codec.ElementCodec.{ElementCodec}
use Rattle.array_codecs.specs.ElementCodecsMetadata.{elements_in}
use Rattle.array_metadata.specs.ArrayCodecs.{shards_in}
use Rattle.array_fields.specs.MetadataFields.{Names}
use Rattle.array_metadata.proofs.Lists.{some_same}

configured_read : {I X : Type 0} (inner_in : Items → Reading I) (index_in : Items → Reading X) (o : Option Data) (k : Configuration)
    → option_map configuration_in o ≡ Some (Ok k) → shard_configured inner_in index_in o ≡ shard_of inner_in index_in k
configured_read inner_in index_in None k e = absurd (cc)
configured_read inner_in index_in (Some d) k e = rw (some_same (configuration_in d) (Ok k) e) refl

pub shards_read : {I : Type 0} (inner_in : Items → Reading I) (d : Data) (k : Configuration) (inner : I) (index : ElementCodec)
    → Names d (codes "sharding_indexed") → option_map configuration_in (get (codes "configuration") d) ≡ Some (Ok k)
    → inner_in k.codecs ≡ Ok inner → elements_in k.index_codecs ≡ Ok index
    → shards_in inner_in d
    ≡ Ok (record { subchunk_shape = k.chunk_shape; inner = inner; index_codec = index; location = k.index_location; order = Unordered })
shards_read inner_in d k inner index names configured inner_read index_read =
    rw (names.named, names.tested)
    (configured_read inner_in elements_in (get (codes "configuration") d) k configured ∙ rw (inner_read, index_read) refl)
