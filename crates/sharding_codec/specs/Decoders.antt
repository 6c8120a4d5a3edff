-- A shard that is read in part through a handle, by its index, which was read once.
use Rattle.std.specs.Prelude.{◌≡◌, ◌<◌, ◌^◌, ℕ, ◌+◌, ◌-◌, ◌*◌, min, IsTrue, List, Option, Some, None, IfSome, length}
use Rattle.parts_errors.specs.Words.{Refusals}
use Rattle.parts_errors.specs.declared.error.CodecError.{CodecError}
use Rattle.parts_errors.specs.Order.{done}
use Rattle.parts_row_major.specs.Numbering.{count_of}
use Rattle.parts_subsets.specs.Grid.{grid_of}
use Rattle.parts_arrays.specs.ArraySpec.{ArraySpec}
use Rattle.storage_handles.specs.Handles.{HandleState, IsRead}
use Rattle.codec_traits.specs.Meanings.{Meaning}
use Rattle.sharding_format.specs.Index.{index_spec, numbers_in_index}
use Rattle.sharding_format.specs.Serves.{subchunk_spec, fixed_size}
pub use Rattle.sharding_open.specs.Cached.{HoldsIndex, cached_len, cached_numbers, object_cells}
pub use Rattle.sharding_open.specs.Slices.{cached_slot, IsRangeOf, IsSliceRead, SlotRefusals}
use Rattle.sharding_open.specs.Cached.{ObjectIndexRefusals, CachedCellsRefusals}
use Rattle.sharding_open.specs.OpenShards.{shard_spec}
use Rattle.sharding_open.specs.declared.shard.OpenShard.{OpenShard}
use Rattle.sharding_codec.specs.Meanings.{layout_in}
use Rattle.sharding_codec.specs.declared.codec.ShardingCodec.{ShardingCodec}

-- what contracts see of a decoder: its codec, what it is asked to serve, its handle, and what was read when it was opened: the object's
-- length, and the numbers of its index, or none where there was no object
pub record Opened (C H : Type 0) : Type 0 where
  pub codec : C
  pub array_spec : ArraySpec
  pub handle : H
  pub len : ℕ
  pub index : Option (List ℕ)

-- the numbers of the index of a shard with this codec and array spec
abbrev pub index_in : {I X : Type 0} → (X → ArraySpec → Meaning) → ShardingCodec I X → ArraySpec → List ℕ → Option (List ℕ)
index_in meaning codec g bytes =
    let index = meaning codec.index_codec (index_spec (grid_of g.shape codec.subchunk_shape)) in
    numbers_in_index index.cells codec.location (fixed_size index.representation) bytes

-- the codec serves what the decoder reads, and where the handle is transparent, the cached index is that of the object; `meaning` says
-- what the
-- codec means, and `index_of` which numbers the index of some bytes has
pub record IsOpen {I X H : Type 0} (meaning : ShardingCodec I X → ArraySpec → Meaning)
    (index_of : ShardingCodec I X → ArraySpec → List ℕ → Option (List ℕ))
    (state : H → HandleState) (d : Opened (ShardingCodec I X) H) : Type 0 where
  pub serves : (meaning d.codec d.array_spec).serves
  pub room : d.len + 1 < 2 ^ 64
  pub counted : IfSome d.index (λ numbers. length numbers ≡ 2 * count_of (grid_of d.array_spec.shape d.codec.subchunk_shape))
  pub cached : IsTrue (state d.handle).transparent → HoldsIndex (index_of d.codec d.array_spec) (state d.handle).contents d.len d.index

-- the decoder of a codec and a handle that knows this of a shard
abbrev pub opened : {C H : Type 0} → C → H → OpenShard → Opened C H
opened codec handle shard =
    record {
      codec = codec;
      array_spec = shard_spec shard;
      handle = handle;
      len = cached_len shard.cached;
      index = cached_numbers shard.cached;
    }

-- what is known of a shard: the decoder is open, and the counts and the grid are its own
pub record IsKnown {I X H : Type 0} (meaning : ShardingCodec I X → ArraySpec → Meaning)
    (index_of : ShardingCodec I X → ArraySpec → List ℕ → Option (List ℕ))
    (state : H → HandleState) (codec : ShardingCodec I X) (handle : H) (shard : OpenShard) : Type 0 where
  pub is_open : IsOpen meaning index_of state (opened codec handle shard)
  pub cells : shard.cells ≡ count_of shard.shape
  pub grid : shard.grid ≡ grid_of shard.shape codec.subchunk_shape
  pub subchunks : shard.subchunks ≡ count_of (grid_of shard.shape codec.subchunk_shape)

-- a reading call leaves all but the handle, and the object
pub record Unmoved {C H : Type 0} (state : H → HandleState) (old new : Opened C H) : Type 0 where
  pub codec : new.codec ≡ old.codec
  pub array_spec : new.array_spec ≡ old.array_spec
  pub len : new.len ≡ old.len
  pub index : new.index ≡ old.index
  pub handle : IsRead (state old.handle) (state new.handle)

-- the bytes that a decoder holds in memory: the handle's, and 8 for each number of the cached index
abbrev pub bytes_cached : ℕ → Option (List ℕ) → ℕ
bytes_cached handle None = handle
bytes_cached handle (Some numbers) = min (handle + 8 * length numbers) (2 ^ 64 - 1)

-- the tests of an object that is opened as a shard of this codec and grid: that its length can be counted, those of its index, and later
-- ones of its bytes
abbrev pub OpeningRefusals : {I X : Type 0} → (X → ArraySpec → Meaning) → ShardingCodec I X → (grid : List ℕ) → Option (List ℕ)
    → (List ℕ → Refusals)
    → CodecError → Type 0
OpeningRefusals meaning codec grid contents later =
    ObjectIndexRefusals (meaning codec.index_codec (index_spec grid)) codec.location contents later

-- the tests of an object that is opened for reading
abbrev pub OpenRefusals : {I X : Type 0} → (X → ArraySpec → Meaning) → ShardingCodec I X → (grid : List ℕ) → Option (List ℕ) → CodecError
    → Type 0
OpenRefusals meaning codec grid contents = OpeningRefusals meaning codec grid contents (λ bytes. done)

-- the tests of a read of the cells at some coordinates of a shard whose index was read before; without an object those of their lengths
-- alone
abbrev pub ObjectCellsRefusals : {I X : Type 0} → (I → ArraySpec → Meaning) → (X → ArraySpec → Meaning) → ShardingCodec I X → ArraySpec
    → Option (List ℕ)
    → List (List ℕ) → CodecError → Type 0
ObjectCellsRefusals inner_meaning index_meaning codec g contents points =
    let inner = inner_meaning codec.inner (subchunk_spec codec.subchunk_shape g) in
    let index = index_meaning codec.index_codec (index_spec (grid_of g.shape codec.subchunk_shape)) in
    CachedCellsRefusals inner index (layout_in codec index g) contents points
