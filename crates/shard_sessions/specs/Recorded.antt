-- A session with its opening cells and its history.
use Rattle.std.specs.Prelude.{◌≡◌, ◌⊎◌, ℕ, false, IsTrue, List, Option, Some, None, length, replicate}
use Rattle.parts_errors.specs.Words.{Refusals}
use Rattle.parts_errors.specs.Order.{◌or_as◌then◌, RefusedBy}
use Rattle.parts_row_major.specs.Subsets.{Subset, points_of}
use Rattle.parts_subsets.specs.Grid.{grid_of}
use Rattle.parts_arrays.specs.ArraySpec.{ArraySpec}
use Rattle.parts_subsets.specs.Selections.{subset_selection}
use Rattle.parts_arrays.specs.Arrays.{Array}
use Rattle.storage_handles.specs.Handles.{HandleState}
use Rattle.storage_handles.specs.Objects.{ObjectRefusals}
use Rattle.codec_traits.specs.Meanings.{Meaning}
use Rattle.codec_traits.specs.Refusals.{RefusesUnserved}
use Rattle.codec_traits.specs.Reads.{RequestRefusals}
use Rattle.sharding_format.specs.Index.{index_spec}
use Rattle.sharding_format.specs.Serves.{subchunk_spec}
use Rattle.sharding_codec.specs.Meanings.{shard_meaning}
use Rattle.sharding_codec.specs.Decoders.{ObjectCellsRefusals}
use Rattle.sharding_codec.specs.Sessions.{Session, IsInStep, SessionRefusals}
use Rattle.sharding_codec.specs.declared.codec.ShardingCodec.{ShardingCodec}
use Rattle.session_runs.specs.Objects.{Shards, shards_of, IsSound}
use Rattle.session_runs.specs.Histories.{Replays}
use Rattle.session_runs.specs.declared.event.Event.{Event}

-- what contracts see of a recorded session: the session, the cells that it opened with, and what was done since
pub record Recorded (C H : Type 0) : Type 0 where
  pub state : Session C H
  pub opening : Array
  pub events : List Event

abbrev pub recorded_of : {C H : Type 0} → Session C H → Array → List Event → Recorded C H
recorded_of state opening events = record { state = state; opening = opening; events = events }

-- something holds of the shards of the codec that a name gives
abbrev pub HoldsNamed : {I X : Type 0} → (I → ArraySpec → Meaning) → (X → ArraySpec → Meaning) → Option (ShardingCodec I X) → ArraySpec
    → (Shards → Type 0) → Type 0
HoldsNamed inner_meaning index_meaning None g P = ⊥
HoldsNamed inner_meaning index_meaning (Some codec) g P = P (shards_of inner_meaning index_meaning codec g)

-- what the codec means
abbrev pub meaning_in : {I X : Type 0} → (I → ArraySpec → Meaning) → (X → ArraySpec → Meaning) → ShardingCodec I X → ArraySpec → Meaning
meaning_in inner_meaning index_meaning codec g =
    shard_meaning codec (inner_meaning codec.inner (subchunk_spec codec.subchunk_shape g))
    (index_meaning codec.index_codec (index_spec (grid_of g.shape codec.subchunk_shape))) g

-- the session has the codec and the arrays of its name, and is in step; and where no write failed and the handle is transparent, the
-- history is legal, and leads from the opening cells to those of the object
pub record IsRecorded {I X H : Type 0} (inner_meaning : I → ArraySpec → Meaning) (index_meaning : X → ArraySpec → Meaning)
    (state : H → HandleState)
    (codec : Option (ShardingCodec I X)) (g : ArraySpec) (r : Recorded (ShardingCodec I X) H) : Type 0 where
  pub codec_named : Some r.state.codec ≡ codec
  pub spec_named : r.state.array_spec ≡ g
  pub in_step : IsInStep (meaning_in inner_meaning index_meaning) index_meaning state r.state
  pub replays : r.state.failed ≡ false → IsTrue (state r.state.handle).transparent
      → HoldsNamed inner_meaning index_meaning codec g (λ s. Replays s r.opening.elements r.events (state r.state.handle).contents)

-- the subset of all cells of a shape
abbrev pub full_subset : List ℕ → Subset
full_subset shape = record { start = replicate (length shape) 0; shape = shape }

-- the tests of a read of all cells of an object
abbrev pub WholeReadRefusals : {I X : Type 0} → (I → ArraySpec → Meaning) → (X → ArraySpec → Meaning) → ShardingCodec I X → ArraySpec
    → (old new : HandleState) → Refusals
WholeReadRefusals inner_meaning index_meaning codec g old new =
    RequestRefusals g (subset_selection (full_subset g.shape)) (meaning_in inner_meaning index_meaning codec g).answerable (
    ObjectRefusals old new (
    ObjectCellsRefusals inner_meaning index_meaning codec g old.contents (points_of (full_subset g.shape))))

-- how the opening of a recorded session is refused: as that of a session; or, where the object is sound, as a read of all its cells
abbrev pub RecordedRefusals : {I X : Type 0} → (I → ArraySpec → Meaning) → (X → ArraySpec → Meaning) → ShardingCodec I X → ArraySpec
    → (old new : HandleState) → Refusals
RecordedRefusals inner_meaning index_meaning codec g old new e =
    let meaning = meaning_in inner_meaning index_meaning codec g in
    RefusedBy
    (meaning.serves or_as RefusesUnserved meaning then ObjectRefusals old new (SessionRefusals index_meaning codec g old.contents)) e
    ⊎ (meaning.serves × (IsTrue old.transparent → IsSound (shards_of inner_meaning index_meaning codec g) old.contents)
    × RefusedBy (WholeReadRefusals inner_meaning index_meaning codec g old new) e)
