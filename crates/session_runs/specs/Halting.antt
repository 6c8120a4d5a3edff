-- What stands between two commands of a run, and why a step stops it.
use Rattle.std.specs.Prelude.{◌≡◌, ◌++◌, ◌∷◌, [], ◌⊎◌, false, List, Option, Some, None}
use Rattle.parts_errors.specs.Words.{Bytes}
use Rattle.parts_errors.specs.declared.error.CodecError.{CodecError}
use Rattle.parts_arrays.specs.ArraySpec.{ArraySpec}
use Rattle.storage_handles.specs.Handles.{HandleState, MayFault}
use Rattle.sharding_codec.specs.Sessions.{Session}
use Rattle.session_runs.specs.Maps.{CellMap}
use Rattle.session_runs.specs.Objects.{Shards, Shows}
use Rattle.session_runs.specs.Runs.{Run}
use Rattle.session_runs.specs.Ended.{StopsBy}
use Rattle.session_runs.specs.declared.command.Command.{Command}
use Rattle.session_runs.specs.declared.command.Reply.{Reply}

-- the replies with one more, where there is one
abbrev pub with_reply : List Reply → Option Reply → List Reply
with_reply replies None = replies
with_reply replies (Some reply) = replies ++ reply ∷ []

-- why a step gives no session back. With a reply it led on, and the reopening after it was refused; with none the object is as it was,
-- where the handle did not fail
abbrev pub Halts : (Led : Reply → Type 0) → (Kept : Type 0) → HandleState → HandleState → Option Reply → CodecError → Type 0
Halts Led Kept start end (Some reply) e = Led reply × StopsBy start end e
Halts Led Kept start end None e = (Kept × StopsBy start end e) ⊎ MayFault start end e

-- a session of this codec and array spec, in which no write failed
pub record IsSessionOf {C H : Type 0} (c : C) (g : ArraySpec) (session : Session C H) : Type 0 where
  pub codec : session.codec ≡ c
  pub array_spec : session.array_spec ≡ g
  pub usable : session.failed ≡ false

-- a run so far: it leads from each map that the first object shows to one that the object shows now
abbrev pub Ran : Shards → Option Bytes → List Command → List Reply → Option Bytes → Type 0
Ran s start commands replies now = (m : CellMap) → Shows s start m → (m' : CellMap) × Run s commands m start replies m' now × Shows s now m'
