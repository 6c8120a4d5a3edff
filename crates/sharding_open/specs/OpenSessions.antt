-- What a session holds of a shard that is open for reading and writing.
use Rattle.std.specs.Prelude.{◌≡◌, ℕ, ◌*◌, IsTrue, List, Option, Some, None, IfNone, length, replicate}
use Rattle.parts_errors.specs.Words.{Refusals}
use Rattle.parts_errors.specs.Order.{done}
use Rattle.parts_row_major.specs.Numbering.{count_of}
use Rattle.parts_subsets.specs.Grid.{grid_of}
use Rattle.parts_arrays.specs.ArraySpec.{ArraySpec}
use Rattle.storage_handles.specs.Handles.{HandleState}
use Rattle.codec_traits.specs.Meanings.{Meaning}
use Rattle.sharding_format.specs.Index.{absent_number, numbers_in_index}
use Rattle.sharding_format.specs.Serves.{fixed_size}
use Rattle.sharding_format.specs.declared.index.ShardIndex.{ShardIndex}
use Rattle.sharding_format.specs.declared.location.ShardingIndexLocation.{ShardingIndexLocation}
use Rattle.sharding_index.specs.Indexes.{IsIndexPlan}
use Rattle.sharding_index.specs.DataPart.{EntryRefusals}
use Rattle.sharding_write.specs.Writing.{HoldsNumbers, IsCachedIndex}
use Rattle.sharding_open.specs.Cached.{cached_len, ObjectIndexRefusals}
use Rattle.sharding_open.specs.OpenShards.{IsKnown}
use Rattle.sharding_open.specs.declared.session.OpenSession.{OpenSession}

-- the numbers of an index of n subchunks, each of them absent
abbrev pub absent_index : ℕ → List ℕ
absent_index n = replicate (2 * n) absent_number

-- the numbers that a session holds: of the index of the object, or where there is none of a blank one
abbrev pub numbers_cached : Option ShardIndex → List ℕ → List ℕ
numbers_cached None blank = blank
numbers_cached (Some index) blank = index.numbers.items

-- the numbers of the index that stands in some bytes, by what the index codec means
abbrev pub numbers_in : Meaning → ShardingIndexLocation → List ℕ → Option (List ℕ)
numbers_in index location bytes = numbers_in_index index.cells location (fixed_size index.representation) bytes

-- what is known of what a session holds: the shard is open; the index codec serves its grid; each held pair is absent or lies in the data
-- part; without an object the blank index has each subchunk absent; and where the handle is transparent, the held length and numbers are
-- those of the object. `meaning` says what shards mean, `index` what the index codec means for a grid, `sub` is the shape of a subchunk
pub record IsOpenSession {H : Type 0} (meaning : ArraySpec → Meaning) (index : (grid : List ℕ) → Meaning) (location : ShardingIndexLocation)
    (sub : List ℕ) (state : H → HandleState) (handle : H) (opened : OpenSession) : Type 0 where
  pub known : IsKnown meaning (λ g. numbers_in (index (grid_of g.shape sub)) location) sub state handle opened.shard
  pub plan : IsIndexPlan index opened.plan
  pub grid : opened.plan.grid ≡ grid_of opened.shard.shape sub
  pub blank : IfNone opened.shard.cached (opened.blank.items ≡ absent_index (count_of (grid_of opened.shard.shape sub)))
  pub numbers : IsCachedIndex location (fixed_size (index (grid_of opened.shard.shape sub)).representation)
      (count_of (grid_of opened.shard.shape sub)) (cached_len opened.shard.cached) (numbers_cached opened.shard.cached opened.blank.items)
  pub cached : IsTrue (state handle).transparent → HoldsNumbers (numbers_in (index (grid_of opened.shard.shape sub)) location)
      (state handle).contents (cached_len opened.shard.cached) (numbers_cached opened.shard.cached opened.blank.items)

-- the tests of an object that is opened for writing too: as for reading, and then those of the entries of its index
abbrev pub SessionIndexRefusals : (index : (grid : List ℕ) → Meaning) → ShardingIndexLocation → (sub : List ℕ) → ArraySpec → Option (List ℕ)
    → Refusals
SessionIndexRefusals index location sub g contents =
    let meant = index (grid_of g.shape sub) in
    ObjectIndexRefusals meant location contents (λ bytes.
    EntryRefusals location (fixed_size meant.representation) (length bytes) (numbers_in meant location bytes)
    (count_of (grid_of g.shape sub))
    done)
