-- What the functions that serve one command do.
use Rattle.std.specs.Prelude.{◌≡◌, ℕ, List, [], Option, Some, None}
use Rattle.parts_errors.specs.Words.{Bytes, Refusals}
use Rattle.parts_errors.specs.declared.error.CodecError.{CodecError}
use Rattle.parts_errors.specs.Order.{done}
use Rattle.storage_handles.specs.Handles.{HandleState, MayFault}
use Rattle.storage_handles.specs.Writes.{IsWriting}
use Rattle.codec_traits.specs.Reads.{cells_at}
use Rattle.sharding_format.specs.Compacting.{CompactRefusals}
use Rattle.sharding_format.specs.DecodeRefusals.{RefusesLengths}
use Rattle.sharding_format.specs.ReadRefusals.{AnswerRefusals, CellsRefusals}
use Rattle.sharding_codec.specs.Decoders.{object_cells}
use Rattle.session_runs.specs.Maps.{CellMap}
use Rattle.session_runs.specs.Objects.{Shards, index_numbers, Shows, IsSound}
use Rattle.session_runs.specs.Ended.{IsShort}

-- a step leads from each map that the old object shows to one that the new object shows
abbrev pub Leads : Shards → (CellMap → CellMap → Type 0) → (old new : Option Bytes) → Type 0
Leads s step old new = (m : CellMap) → Shows s old m → (m' : CellMap) × step m m' × Shows s new m'

-- the handle failed in a call, and keeps what it keeps
pub record HasFaulted (old new : HandleState) (e : CodecError) : Type 0 where
  pub fault : MayFault old new e
  pub writing : IsWriting old new

-- the tests of a compaction of an object, where there is one
abbrev pub ObjectCompactRefusals : Shards → Option Bytes → Refusals
ObjectCompactRefusals s None = done
ObjectCompactRefusals s (Some bytes) = CompactRefusals s.index s.layout bytes

-- the tests of a read of an object: without one those of the lengths of fill values alone
abbrev pub ReadObjectRefusals : Shards → Option Bytes → (points : List (List ℕ)) → Refusals
ReadObjectRefusals s None points = RefusesLengths (cells_at (object_cells (λ bytes. []) s.array_spec None) s.array_spec.shape points)
ReadObjectRefusals s (Some bytes) points =
    CellsRefusals (AnswerRefusals s.inner.answerable s.inner.read_refusals) s.inner.cells s.index.cells s.layout bytes
    (index_numbers s bytes) points

-- an object is sound, and short enough to be held
pub record IsUsable (s : Shards) (object : Option Bytes) : Type 0 where
  pub sound : IsSound s object
  pub short : IsShort object
