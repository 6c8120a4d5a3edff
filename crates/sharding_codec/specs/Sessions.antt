-- A shard that is held open for reading and writing, by its index, which stays in step with the object.
use Rattle.std.specs.Prelude.{◌≡◌, ◌<◌, ◌^◌, ◌⊎◌, ℕ, ◌+◌, ◌-◌, ◌*◌, min, Bool, true, false, IsTrue, List, Option, length}
use Rattle.parts_row_major.specs.Numbering.{count_of}
use Rattle.parts_subsets.specs.Grid.{grid_of}
use Rattle.parts_arrays.specs.ArraySpec.{ArraySpec, array_spec}
use Rattle.parts_errors.specs.declared.error.CodecError.{CodecError}
use Rattle.parts_errors.specs.declared.error.CodecError.TheVariants.{Fault}
use Rattle.storage_handles.specs.Handles.{HandleState, IsRead}
use Rattle.storage_handles.specs.Writes.{IsWriting}
use Rattle.codec_traits.specs.Meanings.{Meaning}
use Rattle.sharding_format.specs.Index.{index_spec}
use Rattle.sharding_format.specs.Serves.{fixed_size}
use Rattle.sharding_write.specs.Writing.{HoldsNumbers, IsCachedIndex}
use Rattle.sharding_open.specs.Cached.{cached_len}
pub use Rattle.sharding_open.specs.OpenSessions.{absent_index, numbers_cached}
use Rattle.sharding_open.specs.OpenSessions.{IsOpenSession, SessionIndexRefusals}
use Rattle.sharding_open.specs.declared.session.OpenSession.{OpenSession}
use Rattle.sharding_codec.specs.Decoders.{index_in}
use Rattle.sharding_codec.specs.declared.codec.ShardingCodec.{ShardingCodec}

-- what contracts see of a session: its codec, what it is asked to serve, its handle, whether a write failed in it, and what it holds of
-- the object: its length, and the numbers of its index; without an object no bytes, and each subchunk absent
pub record Session (C H : Type 0) : Type 0 where
  pub codec : C
  pub array_spec : ArraySpec
  pub handle : H
  pub failed : Bool
  pub len : ℕ
  pub index : List ℕ

-- the subchunks of the shards of a session
abbrev pub subchunks_of : {I X : Type 0} → ShardingCodec I X → ArraySpec → ℕ
subchunks_of codec g = count_of (grid_of g.shape codec.subchunk_shape)

-- the bytes of their index
abbrev pub index_size_of : {I X : Type 0} → (X → ArraySpec → Meaning) → ShardingCodec I X → ArraySpec → ℕ
index_size_of meaning codec g = fixed_size (meaning codec.index_codec (index_spec (grid_of g.shape codec.subchunk_shape))).representation

-- the codec serves what the session reads and writes; each held pair is absent or lies in the data part; and where no write failed and the
-- handle is transparent, the held length and numbers are those of the object
pub record IsInStep {I X H : Type 0} (meaning : ShardingCodec I X → ArraySpec → Meaning) (index_meaning : X → ArraySpec → Meaning)
    (state : H → HandleState) (s : Session (ShardingCodec I X) H) : Type 0 where
  pub serves : (meaning s.codec s.array_spec).serves
  pub index : IsCachedIndex s.codec.location (index_size_of index_meaning s.codec s.array_spec) (subchunks_of s.codec s.array_spec) s.len
      s.index
  pub cached : s.failed ≡ false → IsTrue (state s.handle).transparent
      → HoldsNumbers (index_in index_meaning s.codec s.array_spec) (state s.handle).contents s.len s.index

-- the session of a codec and a handle that holds this of a shard
abbrev pub session_of : {C H : Type 0} → C → H → Bool → OpenSession → Session C H
session_of codec handle failed opened =
    record {
      codec = codec;
      array_spec = array_spec opened.shard.shape opened.shard.data_type opened.shard.fill_value;
      handle = handle;
      failed = failed;
      len = cached_len opened.shard.cached;
      index = numbers_cached opened.shard.cached opened.blank.items;
    }

-- what is known of what a session holds: it is in step; and where no write failed, what it holds is known of a session that is open
pub record IsCachedOpen {I X H : Type 0} (meaning : ShardingCodec I X → ArraySpec → Meaning) (index_meaning : X → ArraySpec → Meaning)
    (state : H → HandleState) (codec : ShardingCodec I X) (handle : H) (failed : Bool) (opened : OpenSession) : Type 0 where
  pub in_step : IsInStep meaning index_meaning state (session_of codec handle failed opened)
  pub is_open : failed ≡ false → IsOpenSession (meaning codec) (λ grid. index_meaning codec.index_codec (index_spec grid)) codec.location
      codec.subchunk_shape state handle opened

-- a call leaves all but the handle, and of this the object
pub record IsLeft {C H : Type 0} (state : H → HandleState) (old new : Session C H) : Type 0 where
  pub codec : new.codec ≡ old.codec
  pub array_spec : new.array_spec ≡ old.array_spec
  pub failed : new.failed ≡ old.failed
  pub len : new.len ≡ old.len
  pub index : new.index ≡ old.index
  pub handle : IsRead (state old.handle) (state new.handle)

-- a writing call was done: no write failed, and it leaves the codec, the arrays and what the handle keeps
pub record IsDone {C H : Type 0} (state : H → HandleState) (old new : Session C H) : Type 0 where
  pub codec : new.codec ≡ old.codec
  pub array_spec : new.array_spec ≡ old.array_spec
  pub before : old.failed ≡ false
  pub after : new.failed ≡ false
  pub handle : IsWriting (state old.handle) (state new.handle)

-- a writing call of the handle failed: the session is failed from now on, and of the object nothing is said
pub record HasFailed {C H : Type 0} (state : H → HandleState) (old new : Session C H) : Type 0 where
  pub codec : new.codec ≡ old.codec
  pub array_spec : new.array_spec ≡ old.array_spec
  pub before : old.failed ≡ false
  pub after : new.failed ≡ true
  pub handle : IsWriting (state old.handle) (state new.handle)
  pub counted : (state old.handle).faults < (state new.handle).faults

-- a refused writing call left the session and the object, or it is a fault by which the session failed
abbrev pub IsLeftOrFailed : {C H : Type 0} → (H → HandleState) → Session C H → Session C H → CodecError → Type 0
IsLeftOrFailed state old new e = IsLeft state old new ⊎ ((e ≡ Fault) × HasFailed state old new)

-- the bytes that a session holds in memory: the handle's, and 8 for each number of the cached index
abbrev pub bytes_of_session : ℕ → List ℕ → ℕ
bytes_of_session handle numbers = min (handle + 8 * length numbers) (2 ^ 64 - 1)

-- the tests of an object that is opened for writing too: as for reading, and then those of the entries of its index
abbrev pub SessionRefusals : {I X : Type 0} → (X → ArraySpec → Meaning) → ShardingCodec I X → ArraySpec → Option (List ℕ) → CodecError
    → Type 0
SessionRefusals meaning codec =
    SessionIndexRefusals (λ grid. meaning codec.index_codec (index_spec grid)) codec.location codec.subchunk_shape
