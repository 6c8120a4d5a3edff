-- Shards keep every law that they ask of their inner codec and of their index codec.
use Rattle.std.specs.Prelude.{ℕ, List}
use Rattle.parts_subsets.specs.Grid.{grid_of}
use Rattle.parts_arrays.specs.ArraySpec.{ArraySpec}
use Rattle.parts_arrays.specs.Types.{size_of}
use Rattle.codec_traits.specs.Meanings.{Meaning}
use Rattle.codec_traits.specs.Laws.{IsLawful}
use Rattle.sharding_format.specs.Index.{index_spec}
use Rattle.sharding_format.specs.Serves.{subchunk_spec, layout}
use Rattle.sharding_format.specs.Faultless.{check_refusals_faultless, encode_refusals_faultless, compact_refusals_faultless}
use Rattle.sharding_format.specs.Laws.{length-shard_cells, shard_cells_fitting, cells_of_encoding, cells_of_compacted, shard_bounded}
use Rattle.sharding_engine.specs.Meanings.{sharded_meaning}
use Rattle.sharding_format.specs.declared.location.ShardingIndexLocation.{ShardingIndexLocation}
use Rattle.sharding_format.specs.declared.order.SubchunkWriteOrder.{SubchunkWriteOrder}

pub sharded_lawful : (sub : List ℕ) (location : ShardingIndexLocation) (order : SubchunkWriteOrder) (inner index : Meaning) (g : ArraySpec)
    → IsLawful (subchunk_spec sub g) inner
    → IsLawful (index_spec (grid_of g.shape sub)) index
    → IsLawful g (sharded_meaning sub location order inner index g)
sharded_lawful sub location order inner index g inner_law index_law =
    let l = layout sub location order index.representation g in
    record {
      check_faultless = λ e h. check_refusals_faultless inner index sub g inner_law.check_faultless index_law.check_faultless e h;
      encode_faultless = λ array e h. encode_refusals_faultless inner index l (size_of g.data_type) array e h;
      compact_faultless = λ b e h. compact_refusals_faultless index l b index_law.check_faultless e h;
      cells_counted = λ b h. length-shard_cells _ _ _ b;
      cells_fitting = λ b i h below. shard_cells_fitting _ _ sub location order _ g b i h.fill_fits h.divides below
          (λ x j inside. inner_law.cells_fitting x j h.inner_served inside);
      written_cells = λ a b h array e. cells_of_encoding _ _ _ _ sub location order _ g a b h.divides array
          (λ x y array written. inner_law.written_cells x y h.inner_served array written)
          (λ x y array written. index_law.written_cells x y h.index_served.served array written) e;
      compacted_cells = λ old new h rewritten. cells_of_compacted _ index sub location order _ g old new h.divides
          (λ x y array written. index_law.written_cells x y h.index_served.served array written) rewritten;
      bounded = λ a b h array e. shard_bounded _ _ _ sub location order _ g a b h.divides array
          (λ x y array written. inner_law.bounded x y h.inner_served array written) e;
    }
