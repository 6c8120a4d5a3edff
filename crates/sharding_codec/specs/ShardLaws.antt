-- The sharding codec keeps every law that it asks of its inner codec and of its index codec.
use Rattle.parts_subsets.specs.Grid.{grid_of}
use Rattle.parts_arrays.specs.ArraySpec.{ArraySpec}
use Rattle.codec_traits.specs.Meanings.{Meaning}
use Rattle.codec_traits.specs.Laws.{IsLawful}
use Rattle.sharding_format.specs.Index.{index_spec}
use Rattle.sharding_format.specs.Serves.{subchunk_spec}
use Rattle.sharding_engine.specs.MeaningLaws.{sharded_lawful}
use Rattle.sharding_codec.specs.Meanings.{shard_meaning}
use Rattle.sharding_codec.specs.declared.codec.ShardingCodec.{ShardingCodec}

pub shard_lawful : {I X : Type 0} (codec : ShardingCodec I X) (inner index : Meaning) (g : ArraySpec)
    → IsLawful (subchunk_spec codec.subchunk_shape g) inner
    → IsLawful (index_spec (grid_of g.shape codec.subchunk_shape)) index
    → IsLawful g (shard_meaning codec inner index g)
shard_lawful codec = sharded_lawful codec.subchunk_shape codec.location codec.order
