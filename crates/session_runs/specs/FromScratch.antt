-- What a run leaves byte for byte, which starts from no object or from an encoding of an array.
use Rattle.std.specs.Prelude.{◌≡◌, ⊤, true, false, List, [], ◌∷◌, ◌++◌, Option, Some, None, take, length}
use Rattle.parts_errors.specs.Words.{Bytes, Elements}
use Rattle.parts_arrays.specs.ArraySpec.{ArraySpec, IsArrayOf}
use Rattle.parts_subsets.specs.Grid.{grid_of}
use Rattle.storage_handles.specs.Handles.{HandleState}
use Rattle.codec_traits.specs.Meanings.{Meaning}
use Rattle.sharding_format.specs.Index.{index_spec}
use Rattle.sharding_format.specs.Encoding.{IsEncoding}
use Rattle.sharding_format.specs.Scratch.{scratch}
use Rattle.sharding_format.specs.Serves.{subchunk_spec}
use Rattle.session_runs.specs.Maps.{CellMap, elements_of}
use Rattle.session_runs.specs.Objects.{Shards, Shows}
use Rattle.session_runs.specs.Runs.{Run}
use Rattle.session_runs.specs.Ended.{IsShort}
use Rattle.session_runs.specs.declared.command.Command.{Command}
use Rattle.session_runs.specs.declared.command.Command.TheVariants as command
use Rattle.session_runs.specs.declared.command.Reply.{Reply}
use Rattle.session_runs.specs.declared.command.Reply.TheVariants.{Done, Compacted}

-- each array of an array spec has one encoding, which a function gives
abbrev pub HasOneEncoding : Meaning → ArraySpec → (encoding : Elements → Bytes) → Type 0
HasOneEncoding m g encoding = (a : Elements) (bytes : Bytes) → IsArrayOf g a → m.written a bytes → bytes ≡ encoding a

-- the inner codec and the index codec of some shards have one encoding of each array
abbrev pub AreFunctional : Shards → (inner_encoding index_encoding : Elements → Bytes) → Type 0
AreFunctional s inner_encoding index_encoding =
    HasOneEncoding s.inner (subchunk_spec s.layout.sub s.array_spec) inner_encoding
    × HasOneEncoding s.index (index_spec (grid_of s.array_spec.shape s.layout.sub)) index_encoding

-- there is no object, or it is an encoding of an array
abbrev pub IsEncoded : Shards → Option Bytes → Type 0
IsEncoded s None = ⊤
IsEncoded s (Some bytes) = (a : Elements) × IsArrayOf s.array_spec a × IsEncoding s.inner.written s.index.written s.layout a bytes

-- the last reply
abbrev pub EndsWith : List Reply → Reply → Type 0
EndsWith replies last = (before : List Reply) × (replies ≡ before ++ last ∷ [])

-- until a write is accepted no compaction rewrites the object
abbrev pub GainsNothing : List Command → List Reply → Type 0
GainsNothing (command.Write subset bytes ∷ commands) (Done ∷ replies) = ⊤
GainsNothing (command.Compact ∷ commands) (Compacted rewritten ∷ replies) = (rewritten ≡ false) × GainsNothing commands replies
GainsNothing (c ∷ commands) (r ∷ replies) = GainsNothing commands replies
GainsNothing _ _ = ⊤

-- no write is accepted, and no erase
abbrev pub AcceptsNothing : List Command → List Reply → Type 0
AcceptsNothing (command.Write subset bytes ∷ commands) (Done ∷ replies) = ⊥
AcceptsNothing (command.Erase ∷ commands) (Done ∷ replies) = ⊥
AcceptsNothing (c ∷ commands) (r ∷ replies) = AcceptsNothing commands replies
AcceptsNothing _ _ = ⊤

-- an object is none, or an encoding of an array, short enough to be held; and it shows a map
pub record StartsEncoded (s : Shards) (object : Option Bytes) (m : CellMap) : Type 0 where
  pub encoded : IsEncoded s object
  pub short : IsShort object
  pub shows : Shows s object m

-- from such a start, where each codec has one encoding of an array, no call of the handle failed, and the last reply is that of a
-- compaction that rewrote the object: this is then the shard of the map at that point, made from scratch
abbrev pub LeavesScratch : Shards → HandleState → HandleState → List Command → List Reply → Type 0
LeavesScratch s start end commands replies =
    (inner_encoding index_encoding : Elements → Bytes) → AreFunctional s inner_encoding index_encoding
    → (m : CellMap) → StartsEncoded s start.contents m → end.faults ≡ start.faults → EndsWith replies (Compacted true)
    → (m' : CellMap) × Run s (take (length replies) commands) m start.contents replies m' end.contents
    × (end.contents ≡ Some (scratch inner_encoding index_encoding s.layout (elements_of s.array_spec m')))

-- from such a start no compaction rewrites the object until a write is accepted
abbrev pub LeavesUnwritten : Shards → HandleState → List Command → List Reply → Type 0
LeavesUnwritten s start commands replies =
    (m : CellMap) → StartsEncoded s start.contents m → GainsNothing (take (length replies) commands) replies

-- from such a start, where no call of the handle failed, and no write was accepted, and no erase, the object is as it was
abbrev pub LeavesUntouched : Shards → HandleState → HandleState → List Command → List Reply → Type 0
LeavesUntouched s start end commands replies =
    (m : CellMap) → StartsEncoded s start.contents m → end.faults ≡ start.faults → AcceptsNothing (take (length replies) commands) replies
    → end.contents ≡ start.contents
