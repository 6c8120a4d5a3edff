-- The objects of a run: what they show, and what a write and a compaction make of them.
use Rattle.std.specs.Prelude.{◌≡◌, ⊤, ◌<◌, ℕ, List, Option, Some, None, map, length}
use Rattle.parts_errors.specs.Words.{Bytes, Elements}
use Rattle.parts_row_major.specs.Numbering.{count_of}
use Rattle.parts_row_major.specs.Subsets.{Subset}
use Rattle.parts_subsets.specs.Grid.{grid_of}
use Rattle.parts_arrays.specs.ArraySpec.{ArraySpec}
use Rattle.codec_traits.specs.Meanings.{Meaning}
use Rattle.sharding_format.specs.Index.{index_spec, slot_at, numbers_in_index}
use Rattle.sharding_format.specs.Cells.{Layout, shard_cells}
use Rattle.sharding_format.specs.Serves.{subchunk_spec}
use Rattle.sharding_format.specs.Compacting.{IsCompact, IsCompacted}
use Rattle.sharding_index.specs.DataPart.{IsInDataPart}
use Rattle.sharding_write.specs.Writing.{HoldsNumbers, IsCachedIndex, IsWriteOf, layout_from}
use Rattle.sharding_codec.specs.Meanings.{layout_in}
use Rattle.sharding_codec.specs.Decoders.{object_cells}
use Rattle.sharding_codec.specs.declared.codec.ShardingCodec.{ShardingCodec}
use Rattle.session_runs.specs.Maps.{CellMap, elements_of}

-- the shards of a sharding codec for the arrays of a shape, a type and a fill value: what its inner codec and its index codec mean, and
-- how its shards are laid out
pub record Shards : Type 1 where
  pub array_spec : ArraySpec
  pub inner : Meaning
  pub index : Meaning
  pub layout : Layout

abbrev pub shards_of : {I X : Type 0} → (I → ArraySpec → Meaning) → (X → ArraySpec → Meaning) → ShardingCodec I X → ArraySpec → Shards
shards_of inner_meaning index_meaning codec g =
    let index = index_meaning codec.index_codec (index_spec (grid_of g.shape codec.subchunk_shape)) in
    record {
      array_spec = g;
      inner = inner_meaning codec.inner (subchunk_spec codec.subchunk_shape g);
      index = index;
      layout = layout_in codec index g;
    }

-- how many subchunks a shard has
abbrev pub subchunks_in : Shards → ℕ
subchunks_in s = count_of (grid_of s.array_spec.shape s.layout.sub)

-- the numbers of the index of some bytes, where they have one
abbrev pub index_numbers : Shards → Bytes → Option (List ℕ)
index_numbers s bytes = numbers_in_index s.index.cells s.layout.location s.layout.index_size bytes

-- an object shows a map: its cells are all there, and have the map's elements; without an object each cell is the fill value
abbrev pub Shows : Shards → Option Bytes → CellMap → Type 0
Shows s object m =
    object_cells (shard_cells s.inner.cells s.index.cells s.layout) s.array_spec object ≡ map Some (elements_of s.array_spec m)

-- bytes have an index, each of whose entries is absent or lies in the data part
pub record HasSoundIndex (s : Shards) (bytes : Bytes) : Type 0 where
  pub numbers : List ℕ
  pub told : index_numbers s bytes ≡ Some numbers
  pub placed : (k : ℕ) → k < subchunks_in s
      → IsInDataPart s.layout.location s.layout.index_size (length bytes) (slot_at (length bytes) numbers k)

-- an object is sound: there is none, or it has such an index
abbrev pub IsSound : Shards → Option Bytes → Type 0
IsSound s None = ⊤
IsSound s (Some bytes) = HasSoundIndex s bytes

-- how a write leaves a shard: the order of the subchunks is that in which they were written
abbrev pub written_layout : Shards → Layout
written_layout s = layout_from s.array_spec.shape (subchunk_spec s.layout.sub s.array_spec) s.layout.location s.layout.index_size

-- the new object is the old one with an update written over the cells of a subset, each with the numbers of its index, whose entries are
-- absent
-- or in the data part
pub record IsObjectWritten (s : Shards) (subset : Subset) (update : Elements) (old new : Option Bytes) : Type 0 where
  pub len : ℕ
  pub numbers : List ℕ
  pub before : HoldsNumbers (index_numbers s) old len numbers
  pub before_cached : IsCachedIndex s.layout.location s.layout.index_size (subchunks_in s) len numbers
  pub new_len : ℕ
  pub new_numbers : List ℕ
  pub after : HoldsNumbers (index_numbers s) new new_len new_numbers
  pub after_cached : IsCachedIndex s.layout.location s.layout.index_size (subchunks_in s) new_len new_numbers
  pub written : IsWriteOf s.inner s.index (written_layout s) (subchunk_spec s.layout.sub s.array_spec) subset update old numbers new
      new_numbers

-- there is nothing to gain by a compaction: no object, or one as long as its index and its present slices
abbrev pub IsMinimal : Shards → Option Bytes → Type 0
IsMinimal s None = ⊤
IsMinimal s (Some bytes) = IsCompact s.index.cells s.layout bytes

-- the new object is a compaction of the old one, which is not as long as its index and its present slices
abbrev pub IsRewritten : Shards → (old new : Option Bytes) → Type 0
IsRewritten s None new = ⊥
IsRewritten s (Some bytes) None = ⊥
IsRewritten s (Some bytes) (Some compacted) = IsCompacted s.index s.layout bytes compacted
