-- A session, by what is known of what it holds.
use Rattle.std.proofs.Common.{Bool}
use Rattle.parts_subsets.specs.Grid.{grid_of}
use Rattle.parts_arrays.specs.ArraySpec.{ArraySpec}
use Rattle.storage_handles.specs.Handles.{HandleState, IsRead}
use Rattle.codec_traits.specs.Meanings.{Meaning}
use Rattle.sharding_format.specs.Index.{index_spec}
use Rattle.sharding_format.specs.Serves.{subchunk_spec}
use Rattle.sharding_open.specs.OpenSessions.{IsOpenSession}
use Rattle.sharding_open.specs.declared.session.OpenSession.{OpenSession}
use Rattle.sharding_codec.specs.Meanings.{shard_meaning}
use Rattle.sharding_codec.specs.Sessions.{IsCachedOpen}
use Rattle.sharding_codec.specs.declared.codec.ShardingCodec.{ShardingCodec}

-- what the codec means
abbrev pub meant : {I X : Type 0} → (I → ArraySpec → Meaning) → (X → ArraySpec → Meaning) → ShardingCodec I X → ArraySpec → Meaning
meant inner_meaning index_meaning codec g =
    shard_meaning codec (inner_meaning codec.inner (subchunk_spec codec.subchunk_shape g)) (index_meaning codec.index_codec (index_spec (grid_of g.shape codec.subchunk_shape))) g

-- what is known of a session that is open makes a session that is in step
pub session_open : {I X H : Type 0} (meaning : ShardingCodec I X → ArraySpec → Meaning) (index_meaning : X → ArraySpec → Meaning) (state : H → HandleState)
    (codec : ShardingCodec I X) (handle : H) (failed : Bool) (opened : OpenSession)
    → IsOpenSession (meaning codec) (λ grid. index_meaning codec.index_codec (index_spec grid)) codec.location codec.subchunk_shape state handle opened
    → IsCachedOpen meaning index_meaning state codec handle failed opened
session_open meaning index_meaning state codec handle failed opened known =
    record {
      in_step = record { serves = known.known.serves; index = known.numbers; cached = λ usable. known.cached };
      is_open = λ usable. known;
    }

-- a call that only reads leaves what is known of it
pub read_open : {I X H : Type 0} (meaning : ShardingCodec I X → ArraySpec → Meaning) (index_meaning : X → ArraySpec → Meaning) (state : H → HandleState)
    (codec : ShardingCodec I X) (old new : H) (failed : Bool) (opened : OpenSession)
    → IsRead (state old) (state new) → IsCachedOpen meaning index_meaning state codec old failed opened
    → IsCachedOpen meaning index_meaning state codec new failed opened
read_open meaning index_meaning state codec old new failed opened read h = record {
  in_step = record {
    serves = h.in_step.serves;
    index = h.in_step.index;
    cached = λ usable told. rw read.contents_same (h.in_step.cached usable (rw read.transparent_same at told));
  };
  is_open = λ usable. let o = h.is_open usable in record {
    known = record {
      serves = o.known.serves;
      room = o.known.room;
      counted = o.known.counted;
      cached = λ told. rw read.contents_same (o.known.cached (rw read.transparent_same at told));
      cells = o.known.cells;
      grid = o.known.grid;
      subchunks = o.known.subchunks;
    };
    plan = o.plan;
    grid = o.grid;
    blank = o.blank;
    numbers = o.numbers;
    cached = λ told. rw read.contents_same (o.cached (rw read.transparent_same at told));
  };
}
