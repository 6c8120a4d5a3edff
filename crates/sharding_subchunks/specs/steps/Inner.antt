-- What the inner codec of a shard is asked to serve, and what it means there.
use Rattle.parts_arrays.specs.ArraySpec.{ArraySpec, array_spec}
use Rattle.codec_traits.specs.Meanings.{Meaning}
use Rattle.sharding_subchunks.specs.declared.subchunks.Subchunks.{Subchunks}

-- the shape, the data type and the fill value of each subchunk
abbrev pub spec_of_subchunks : {I : Type 0} → Subchunks I → ArraySpec
spec_of_subchunks subchunks = array_spec subchunks.shape.now subchunks.data_type.now subchunks.fill_value.now

-- what the inner codec means for them
abbrev pub inner_meaning : {I : Type 0} → (I → ArraySpec → Meaning) → Subchunks I → Meaning
inner_meaning meaning subchunks = meaning subchunks.codec.now (spec_of_subchunks subchunks)
