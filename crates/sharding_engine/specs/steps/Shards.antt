-- Shards by their subchunks.
use Rattle.std.specs.Prelude.{ℕ, List}
use Rattle.parts_arrays.specs.ArraySpec.{ArraySpec, array_spec}
use Rattle.codec_traits.specs.Meanings.{Meaning}
use Rattle.sharding_format.specs.Cells.{Layout}
use Rattle.sharding_format.specs.Serves.{layout}
use Rattle.sharding_format.specs.declared.location.ShardingIndexLocation.{ShardingIndexLocation}
use Rattle.sharding_format.specs.declared.order.SubchunkWriteOrder.{SubchunkWriteOrder}
use Rattle.sharding_subchunks.specs.declared.subchunks.Subchunks.{Subchunks}

-- the arrays of this shape that such subchunks make up
abbrev pub whole_spec : {I : Type 0} → Subchunks I → (shape : List ℕ) → ArraySpec
whole_spec subchunks shape = array_spec shape subchunks.data_type.now subchunks.fill_value.now

-- it holds of each layout of a shard of this shape, in whichever order its subchunks are written
abbrev pub OfEachOrder : {I : Type 0} → Subchunks I → (shape : List ℕ) → ShardingIndexLocation → (index : Meaning)
    → (Layout → Type 0) → Type 0
OfEachOrder subchunks shape location index Holds = (order : SubchunkWriteOrder)
    → Holds (layout subchunks.shape.now location order index.representation (whole_spec subchunks shape))
