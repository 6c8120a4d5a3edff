-- What was encoded holds its array.
use Rattle.std.proofs.Common.{◌≡◌, ℕ, List, Option, Some, map, subst, sym}
use Rattle.parts_arrays.specs.ArraySpec.{ArraySpec, array_spec, IsArrayOf}
use Rattle.parts_subsets.specs.Grid.{grid_of}
use Rattle.parts_arrays.specs.declared.data_type.DataType.TheVariants.{UInt8}
use Rattle.codec_bytes.specs.BytesCodecLaws.{bytes_written_cells}
use Rattle.sharding_format.specs.Index.{index_spec}
use Rattle.sharding_format.specs.Encoding.{IsEncoding}
use Rattle.sharding_format.specs.Holding.{Holds}
use Rattle.sharding_format.specs.Serves.{layout_of}
use Rattle.sharding_format.specs.declared.location.ShardingIndexLocation.{ShardingIndexLocation}
use Rattle.sharding_format.specs.declared.order.SubchunkWriteOrder.{SubchunkWriteOrder}
use Rattle.sharding_format.proofs.CompactionLemmas.{holds_encoded}
use Rattle.test_sharding.proofs.laws.compacted_encoding.Goals as goal

cached : (index_cells : List ℕ → List (Option (List ℕ))) (inner_written index_written : List (List ℕ) → List ℕ → Type 0)
    (sub : List ℕ) (location : ShardingIndexLocation) (order : SubchunkWriteOrder) (size : ℕ) (g : ArraySpec) (a : List (List ℕ)) (b borrowed : List ℕ)
    → borrowed ≡ b
    → ((e : List (List ℕ)) (bytes : List ℕ) → IsArrayOf (index_spec (grid_of g.shape sub)) e → index_written e bytes → index_cells bytes ≡ map Some e)
    → IsEncoding inner_written index_written (layout_of sub location order size g) a b
    → Holds inner_written index_cells (layout_of sub location order size g) a borrowed
cached index_cells inner_written index_written sub location order size g a b borrowed same law h =
    subst (Holds inner_written index_cells (layout_of sub location order size g) a) (sym same) (holds_encoded index_cells inner_written index_written sub location order size g a b law h)

pub compact_encoded-requires-clause-holds : goal.compact_encoded-requires-clause-holds
compact_encoded-requires-clause-holds c =
    let s = c.new-codec.result in
    let spec = array_spec c.args.cells.now.shape UInt8 c.args.cells.now.fill in
    cached _ _ _ s.subchunk_shape s.location s.order _ spec c.args.array.now.elements c.in_ok-shard.shard.items c.deref.result.now c.deref.ensures.value
    (λ x y of written. bytes_written_cells s.index_codec (index_spec (grid_of spec.shape s.subchunk_shape)) x y c.in_ok-shard.ensures.serves.index_served.served of written)
    c.in_ok-shard.ensures.written
