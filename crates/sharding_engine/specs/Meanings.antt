-- What shards mean, by what their inner codec and their index codec mean.
use Rattle.std.specs.Prelude.{◌<◌, ◌^◌, ◌*◌, ℕ, List}
use Rattle.parts_row_major.specs.Numbering.{count_of}
use Rattle.parts_subsets.specs.Grid.{grid_of}
use Rattle.parts_arrays.specs.ArraySpec.{ArraySpec}
use Rattle.parts_arrays.specs.Types.{size_of, byte_size}
use Rattle.codec_traits.specs.Meanings.{Meaning}
use Rattle.sharding_format.specs.Index.{index_spec}
use Rattle.sharding_format.specs.Cells.{Layout, shard_cells}
use Rattle.sharding_format.specs.Encoding.{IsEncoding}
use Rattle.sharding_format.specs.Serves.{subchunk_spec, fixed_size, layout, ShardServes, ShardEncodable, ShardFits, shard_representation, CheckRefusals}
use Rattle.sharding_format.specs.DecodeRefusals.{DecodeRefusals}
use Rattle.sharding_format.specs.EncodeRefusals.{EncodeRefusals}
use Rattle.sharding_format.specs.ReadRefusals.{ReadRefusals}
use Rattle.sharding_format.specs.Compacting.{IsCompacted, CompactRefusals}
use Rattle.sharding_format.specs.declared.location.ShardingIndexLocation.{ShardingIndexLocation}
use Rattle.sharding_format.specs.declared.order.SubchunkWriteOrder.{SubchunkWriteOrder}
use Rattle.sharding_engine.specs.declared.sharding.Sharding.{Sharding}

-- what shards of subchunks of this shape mean, with the index at this place
abbrev pub sharded_meaning : (sub : List ℕ) → ShardingIndexLocation → SubchunkWriteOrder → (inner index : Meaning) → ArraySpec → Meaning
sharded_meaning sub location order inner index g =
    let l = layout sub location order index.representation g in
    record {
      serves = ShardServes inner index sub g;
      cells = shard_cells inner.cells index.cells l;
      written = IsEncoding inner.written index.written l;
      encodable = ShardEncodable inner index l;
      fits = ShardFits inner index l;
      representation = shard_representation inner.representation (count_of (grid_of g.shape sub))
          (fixed_size index.representation);
      check_refusals = CheckRefusals inner index sub g;
      encode_refusals = EncodeRefusals inner index l (size_of g.data_type);
      decode_refusals = DecodeRefusals inner index l;
      compacted = IsCompacted index l;
      compact_refusals = CompactRefusals index l;
      answerable = λ n. n * byte_size (size_of g.data_type) < 2 ^ 64;
      read_refusals = ReadRefusals inner index l;
    }

-- what the inner codec means for the subchunks of a shard
abbrev pub inner_of : {I X : Type 0} → (I → ArraySpec → Meaning) → Sharding I X → ArraySpec → Meaning
inner_of meaning sharding g = meaning sharding.inner.now (subchunk_spec sharding.subchunk_shape.now g)

-- what the index codec means for its index
abbrev pub index_of : {I X : Type 0} → (X → ArraySpec → Meaning) → Sharding I X → ArraySpec → Meaning
index_of meaning sharding g = meaning sharding.index_codec.codec.now (index_spec (grid_of g.shape sharding.subchunk_shape.now))

-- its layout
abbrev pub shard_layout : {I X : Type 0} → Sharding I X → (index : Meaning) → ArraySpec → Layout
shard_layout sharding index g = layout sharding.subchunk_shape.now sharding.index_codec.location sharding.order index.representation g

-- what the shard means
abbrev pub meaning_of : {I X : Type 0} → (I → ArraySpec → Meaning) → (X → ArraySpec → Meaning) → Sharding I X → ArraySpec → Meaning
meaning_of inner_meaning index_meaning sharding g =
    sharded_meaning sharding.subchunk_shape.now sharding.index_codec.location sharding.order
    (inner_of inner_meaning sharding g) (index_of index_meaning sharding g) g
