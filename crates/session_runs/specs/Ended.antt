-- What a run of commands has led to when it ends, and why it stops.
use Rattle.std.specs.Prelude.{◌≡◌, ◌<◌, ◌^◌, ◌⊎◌, ◌+◌, List, [], ◌∷◌, ◌++◌, Option, IfSome, take, length}
use Rattle.parts_errors.specs.Words.{Bytes, Refusals}
use Rattle.parts_errors.specs.Order.{RefusedBy}
use Rattle.parts_errors.specs.declared.error.CodecError.{CodecError}
use Rattle.parts_errors.specs.declared.error.CodecError.TheVariants.{OutOfMemory}
use Rattle.storage_handles.specs.Handles.{HandleState, IsRead, MayFault}
use Rattle.session_runs.specs.Maps.{CellMap}
use Rattle.session_runs.specs.Objects.{Shards, Shows, IsSound}
use Rattle.session_runs.specs.Runs.{Run}
use Rattle.session_runs.specs.declared.command.Command.{Command}
use Rattle.session_runs.specs.declared.command.Command.TheVariants.{Compact}
use Rattle.session_runs.specs.declared.command.Reply.{Reply}

-- an object is short enough to be held: below 2^64 - 1 bytes
abbrev pub IsShort : Option Bytes → Type 0
IsShort object = IfSome object (λ bytes. length bytes + 1 < 2 ^ 64)

-- the replies are those of a run over as many of the commands, from a map that the first object shows to one that the last object shows,
-- which is sound; and where no call of the handle failed this is the object that is there
abbrev pub Ended : Shards → HandleState → HandleState → List Command → List Reply → Type 0
Ended s start end commands replies =
    (m : CellMap) → Shows s start.contents m → IsSound s start.contents → IsShort start.contents
    → (m' : CellMap) × (object : Option Bytes)
    × Run s (take (length replies) commands) m start.contents replies m' object
    × Shows s object m' × IsSound s object × IsShort object
    × (end.faults ≡ start.faults → end.contents ≡ object)

-- a run stops for memory, or by a fault, which was counted
abbrev pub StopsBy : HandleState → HandleState → CodecError → Type 0
StopsBy start end e = (e ≡ OutOfMemory) ⊎ MayFault start end e

-- no command, or a compaction as the last one: where such a run has all its replies it may still stop, as the opening of the shard may be
-- refused, or the reopening after the compaction
abbrev pub MayStopLast : List Command → Type 0
MayStopLast commands = (commands ≡ []) ⊎ ((before : List Command) × (commands ≡ before ++ Compact ∷ []))

-- why a run stops where its first opening is not sound: the opening is refused, and leaves the object; or as above
abbrev pub StopsAtOpening : HandleState → HandleState → List Reply → Refusals → CodecError → Type 0
StopsAtOpening start end replies opening e = (replies ≡ []) × IsRead start end × RefusedBy opening e
