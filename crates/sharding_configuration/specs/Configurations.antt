-- What a value of the type of configurations says.
use Rattle.serde_json.specs.View.{items_view}
use Rattle.sharding_configuration.specs.declared.configuration.ShardingCodecConfiguration.{ShardingCodecConfiguration}
use Rattle.sharding_configuration.specs.declared.configuration.ShardingCodecConfiguration.TheVariants.{V1}
use Rattle.sharding_configuration.specs.Configuration.{Configuration}

abbrev pub configuration_of : ShardingCodecConfiguration → Configuration
configuration_of (V1 c) = record {
  chunk_shape = c.chunk_shape;
  codecs = items_view c.codecs.items;
  index_codecs = items_view c.index_codecs.items;
  index_location = c.index_location;
}
