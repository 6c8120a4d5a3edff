-- What the sharding codec means, by what its inner codec and its index codec mean.
use Rattle.parts_arrays.specs.ArraySpec.{ArraySpec}
use Rattle.codec_traits.specs.Meanings.{Meaning}
use Rattle.sharding_format.specs.Cells.{Layout}
use Rattle.sharding_format.specs.Serves.{layout}
use Rattle.sharding_engine.specs.Meanings.{sharded_meaning}
use Rattle.sharding_codec.specs.declared.codec.ShardingCodec.{ShardingCodec}

-- the layout of a shard with this codec and array spec
abbrev pub layout_in : {I X : Type 0} → ShardingCodec I X → (index : Meaning) → ArraySpec → Layout
layout_in codec index g = layout codec.subchunk_shape codec.location codec.order index.representation g

-- what the codec means
abbrev pub shard_meaning : {I X : Type 0} → ShardingCodec I X → (inner index : Meaning) → ArraySpec → Meaning
shard_meaning codec = sharded_meaning codec.subchunk_shape codec.location codec.order
