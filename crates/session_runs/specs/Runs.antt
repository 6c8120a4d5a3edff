-- Runs of commands: what each does to the map and to the object, and what it replies.
use Rattle.std.specs.Prelude.{◌≡◌, true, false, List, [], ◌∷◌, Option, None}
use Rattle.parts_errors.specs.Words.{Bytes}
use Rattle.parts_errors.specs.Order.{RefusedBy}
use Rattle.parts_row_major.specs.Subsets.{Subset}
use Rattle.parts_arrays.specs.Arrays.{Array}
use Rattle.parts_subsets.specs.Selections.{Selection, subset_selection, listed_selection}
use Rattle.codec_traits.specs.Reads.{IsAnswer}
use Rattle.sharding_gather.specs.Updates.{IsUpdateOf}
use Rattle.session_runs.specs.Maps.{CellMap, filled, IsOverridden, elements_at}
use Rattle.session_runs.specs.Objects.{Shards, IsObjectWritten, IsMinimal, IsRewritten}
use Rattle.session_runs.specs.Causes.{ReadCauses, WriteCauses, CompactCauses}
use Rattle.session_runs.specs.declared.command.Command.{Command}
use Rattle.session_runs.specs.declared.command.Command.TheVariants as command
use Rattle.session_runs.specs.declared.command.Reply.{Reply}
use Rattle.session_runs.specs.declared.command.Reply.TheVariants.{Done, Cells, Compacted, Refused}

-- map and object are left as they were
abbrev pub AreLeft : CellMap → Option Bytes → CellMap → Option Bytes → Type 0
AreLeft m o m' o' = (m' ≡ m) × (o' ≡ o)

-- a write puts its elements into the cells of its subset, or is refused for a cause
abbrev pub WriteStep : Shards → Subset → Array → CellMap → Option Bytes → Reply → CellMap → Option Bytes → Type 0
WriteStep s subset update m o Done m' o' =
    IsUpdateOf s.array_spec.shape s.array_spec.data_type (subset_selection subset) update
    × IsOverridden s.array_spec subset update.elements m m'
    × IsObjectWritten s subset update.elements o o'
WriteStep s subset update m o (Refused e) m' o' = AreLeft m o m' o' × RefusedBy (WriteCauses s m o subset update) e
WriteStep s subset update m o _ m' o' = ⊥

-- a read gives the requested cells of the map, or is refused for a cause
abbrev pub ReadStep : Shards → Selection → CellMap → Option Bytes → Reply → CellMap → Option Bytes → Type 0
ReadStep s selection m o (Cells cells) m' o' =
    AreLeft m o m' o' × IsAnswer s.array_spec selection cells × (cells.elements ≡ elements_at s.array_spec m selection.points)
ReadStep s selection m o (Refused e) m' o' = AreLeft m o m' o' × RefusedBy (ReadCauses s m selection) e
ReadStep s selection m o _ m' o' = ⊥

-- an erase leaves no object, and the fill value in every cell
abbrev pub EraseStep : Shards → Reply → CellMap → Option Bytes → Type 0
EraseStep s Done m' o' = (m' ≡ filled s.array_spec) × (o' ≡ None)
EraseStep s _ m' o' = ⊥

-- a compaction leaves the map: it rewrites the object exactly where there is something to gain, and says so, or is refused for a cause
abbrev pub CompactStep : Shards → CellMap → Option Bytes → Reply → CellMap → Option Bytes → Type 0
CompactStep s m o (Compacted true) m' o' = (m' ≡ m) × IsRewritten s o o'
CompactStep s m o (Compacted false) m' o' = AreLeft m o m' o' × IsMinimal s o
CompactStep s m o (Refused e) m' o' = AreLeft m o m' o' × RefusedBy (CompactCauses s o) e
CompactStep s m o _ m' o' = ⊥

-- a reopening leaves map and object
abbrev pub ReopenStep : CellMap → Option Bytes → Reply → CellMap → Option Bytes → Type 0
ReopenStep m o Done m' o' = AreLeft m o m' o'
ReopenStep m o _ m' o' = ⊥

-- one command with its reply leads from a map and an object to a map and an object
abbrev pub Step : Shards → Command → CellMap → Option Bytes → Reply → CellMap → Option Bytes → Type 0
Step s (command.Write subset bytes) m o reply m' o' = WriteStep s subset bytes m o reply m' o'
Step s (command.Read subset) m o reply m' o' = ReadStep s (subset_selection subset) m o reply m' o'
Step s (command.ReadCells coordinates) m o reply m' o' = ReadStep s (listed_selection coordinates) m o reply m' o'
Step s command.Erase m o reply m' o' = EraseStep s reply m' o'
Step s command.Compact m o reply m' o' = CompactStep s m o reply m' o'
Step s command.Reopen m o reply m' o' = ReopenStep m o reply m' o'

-- a run: one step after the other, with a reply for each command
abbrev pub Run : Shards → List Command → CellMap → Option Bytes → List Reply → CellMap → Option Bytes → Type 0
Run s [] m o [] m' o' = AreLeft m o m' o'
Run s (c ∷ commands) m o (r ∷ replies) m' o' =
    (m1 : CellMap) × (o1 : Option Bytes) × Step s c m o r m1 o1 × Run s commands m1 o1 replies m' o'
Run s [] m o (r ∷ replies) m' o' = ⊥
Run s (c ∷ commands) m o [] m' o' = ⊥
