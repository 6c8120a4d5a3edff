-- Layouts of shards of which some of the fields are known.
use Rattle.std.specs.Prelude.{ℕ, List}
use Rattle.codec_traits.specs.Meanings.{Meaning}
use Rattle.sharding_format.specs.Cells.{Layout}
use Rattle.sharding_format.specs.Serves.{fixed_size}
use Rattle.sharding_format.specs.declared.location.ShardingIndexLocation.{ShardingIndexLocation}
use Rattle.sharding_format.specs.declared.order.SubchunkWriteOrder.{SubchunkWriteOrder}

-- it holds of each layout of a shard of this shape by an index codec, whatever its fill value is and in which order its subchunks
-- are written
abbrev pub OfEachLayout : (shape sub : List ℕ) → ShardingIndexLocation → (index : Meaning) → (Layout → Type 0) → Type 0
OfEachLayout shape sub location index Holds = (fill : List ℕ) (order : SubchunkWriteOrder)
    → Holds (record {
      shape = shape;
      sub = sub;
      fill = fill;
      location = location;
      index_size = fixed_size index.representation;
      order = order;
    })
