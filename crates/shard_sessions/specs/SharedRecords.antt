-- A recorded session that threads share. What a call finds under the lock no clause can name: so a clause says what a call of some recorded
-- session of the name did, which left it a recorded session of the name.
use Rattle.std.specs.Prelude.{◌≡◌, ℕ, [], ◌∷◌, ◌++◌, Option, length}
use Rattle.parts_arrays.specs.ArraySpec.{ArraySpec}
use Rattle.storage_handles.specs.Handles.{HandleState}
use Rattle.codec_traits.specs.Meanings.{Meaning}
use Rattle.sharding_codec.specs.Sessions.{Session}
use Rattle.sharding_codec.specs.declared.codec.ShardingCodec.{ShardingCodec}
pub use Rattle.shard_sessions.specs.RefusedErasures.{HasRefusedToErase}
use Rattle.shard_sessions.specs.Recorded.{Recorded, IsRecorded}
use Rattle.session_runs.specs.declared.event.Event.{Event}

-- of some recorded session of a name this is so
abbrev pub OfRecorded : {I X H : Type 0} → (I → ArraySpec → Meaning) → (X → ArraySpec → Meaning) → (H → HandleState)
    → Option (ShardingCodec I X) → ArraySpec
    → (Recorded (ShardingCodec I X) H → Type 0) → Type 0
OfRecorded {I} {X} {H} inner_meaning index_meaning state codec g Is =
    (r : Recorded (ShardingCodec I X) H) × IsRecorded inner_meaning index_meaning state codec g r × Is r

-- one call of some recorded session of a name did this, and left it a recorded session of the name
abbrev pub ByRecorded : {I X H : Type 0} → (I → ArraySpec → Meaning) → (X → ArraySpec → Meaning) → (H → HandleState)
    → Option (ShardingCodec I X) → ArraySpec
    → (Recorded (ShardingCodec I X) H → Recorded (ShardingCodec I X) H → Type 0) → Type 0
ByRecorded {I} {X} {H} inner_meaning index_meaning state codec g Does =
    (old : Recorded (ShardingCodec I X) H) × (new : Recorded (ShardingCodec I X) H)
    × IsRecorded inner_meaning index_meaning state codec g old × IsRecorded inner_meaning index_meaning state codec g new × Does old new

-- it was accepted: its session did this, and its event stands at the end of the history, at a place; the opening cells are as they were
pub record HasAdded {C H : Type 0} (place : ℕ) (event : Event) (Does : Session C H → Session C H → Type 0)
    (old new : Recorded C H) : Type 0 where
  pub session : Does old.state new.state
  pub position_is : place ≡ length old.events
  pub events : new.events ≡ old.events ++ event ∷ []
  pub opening : new.opening ≡ old.opening

-- it was refused: its session refused so, and history and opening cells are as they were
pub record HasAddedNone {C H : Type 0} (Refuses : Session C H → Session C H → Type 0) (old new : Recorded C H) : Type 0 where
  pub session : Refuses old.state new.state
  pub events : new.events ≡ old.events
  pub opening : new.opening ≡ old.opening
