-- What is known of a shard that is open.
use Rattle.std.specs.Prelude.{◌≡◌, ◌<◌, ◌^◌, ℕ, ◌+◌, ◌*◌, IsTrue, List, Option, IfSome, length}
use Rattle.parts_row_major.specs.Numbering.{count_of}
use Rattle.parts_subsets.specs.Grid.{grid_of}
use Rattle.parts_arrays.specs.ArraySpec.{ArraySpec, array_spec}
use Rattle.storage_handles.specs.Handles.{HandleState}
use Rattle.codec_traits.specs.Meanings.{Meaning}
use Rattle.sharding_format.specs.Index.{numbers_in_index}
use Rattle.sharding_format.specs.Serves.{fixed_size}
use Rattle.sharding_engine.specs.Meanings.{index_of}
use Rattle.sharding_engine.specs.declared.sharding.Sharding.{Sharding}
use Rattle.sharding_open.specs.Cached.{HoldsIndex, cached_len, cached_numbers}
use Rattle.sharding_open.specs.declared.shard.OpenShard.{OpenShard}

-- the arrays that it is asked to serve
abbrev pub shard_spec : OpenShard → ArraySpec
shard_spec shard = array_spec shard.shape shard.data_type shard.fill_value

-- the numbers of the index of a shard that is made so
abbrev pub numbers_by : {I X : Type 0} → (X → ArraySpec → Meaning) → Sharding I X → ArraySpec → List ℕ → Option (List ℕ)
numbers_by meaning sharding g bytes =
    let index = index_of meaning sharding g in
    numbers_in_index index.cells sharding.index_codec.location (fixed_size index.representation) bytes

-- it is served, its counts and its grid are its own, and where the handle is transparent, the cached index is that of the object; `meaning`
-- says what shards mean, `index_of` which numbers the index of some bytes has, and `sub` is the shape of a subchunk
pub record IsKnown {H : Type 0} (meaning : ArraySpec → Meaning) (index_of : ArraySpec → List ℕ → Option (List ℕ)) (sub : List ℕ)
    (state : H → HandleState) (handle : H) (shard : OpenShard) : Type 0 where
  pub serves : (meaning (shard_spec shard)).serves
  pub room : cached_len shard.cached + 1 < 2 ^ 64
  pub counted : IfSome (cached_numbers shard.cached) (λ numbers. length numbers ≡ 2 * count_of (grid_of shard.shape sub))
  pub cached : IsTrue (state handle).transparent
      → HoldsIndex (index_of (shard_spec shard)) (state handle).contents (cached_len shard.cached)
      (cached_numbers shard.cached)
  pub cells : shard.cells ≡ count_of shard.shape
  pub grid : shard.grid ≡ grid_of shard.shape sub
  pub subchunks : shard.subchunks ≡ count_of (grid_of shard.shape sub)
