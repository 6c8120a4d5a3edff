-- A session that threads share. What a call finds under the lock no clause can name: so a clause says what a call of some session in step
-- did, which left it in step.
use Rattle.std.specs.Prelude.{◌≡◌, Bool, false, IsTrue, Some, None, IfSome, is_some, length, map}
use Rattle.parts_errors.specs.declared.error.CodecError.{CodecError}
use Rattle.parts_errors.specs.declared.error.CodecError.TheVariants.{SessionFailed}
use Rattle.parts_errors.specs.Order.{◌or◌then◌, RefusedBy}
use Rattle.parts_arrays.specs.ArraySpec.{ArraySpec}
use Rattle.parts_arrays.specs.Arrays.{Array}
use Rattle.parts_subsets.specs.Selections.{Selection}
use Rattle.storage_handles.specs.Handles.{HandleState, IsCounted, MayFault}
use Rattle.storage_handles.specs.Objects.{ObjectRefusals}
use Rattle.codec_traits.specs.Meanings.{Meaning}
use Rattle.codec_traits.specs.Reads.{cells_at, IsAnswer, RequestRefusals}
use Rattle.sharding_gather.specs.Updates.{UpdateRefusals, IsUpdateOf}
pub use Rattle.sharding_workers.specs.Told.{Told}
use Rattle.sharding_write.specs.Writing.{AreOverlaid}
use Rattle.sharding_codec.specs.Decoders.{object_cells, ObjectCellsRefusals}
use Rattle.sharding_codec.specs.Sessions.{Session, IsInStep, IsLeft, IsDone, IsLeftOrFailed, absent_index, subchunks_of}
use Rattle.sharding_codec.specs.SessionWrites.{IsWritten, WrittenRefusals, SubsetIndexerRefusals}
use Rattle.sharding_codec.specs.declared.codec.ShardingCodec.{ShardingCodec}

-- of some session in step this is so
abbrev pub OfSome : {I X H : Type 0} → (ShardingCodec I X → ArraySpec → Meaning) → (X → ArraySpec → Meaning) → (H → HandleState)
    → (Session (ShardingCodec I X) H → Type 0) → Type 0
OfSome {I} {X} {H} meaning index_meaning state Is = (s : Session (ShardingCodec I X) H) × IsInStep meaning index_meaning state s × Is s

-- one call of some session in step did this, and left it in step
abbrev pub ByOne : {I X H : Type 0} → (ShardingCodec I X → ArraySpec → Meaning) → (X → ArraySpec → Meaning) → (H → HandleState)
    → (Session (ShardingCodec I X) H → Session (ShardingCodec I X) H → Type 0) → Type 0
ByOne {I} {X} {H} meaning index_meaning state Does =
    (old : Session (ShardingCodec I X) H) × (new : Session (ShardingCodec I X) H)
    × IsInStep meaning index_meaning state old × IsInStep meaning index_meaning state new × Does old new

-- it told whether there is an object, and left all else
pub record HasTold {I X H : Type 0} (state : H → HandleState) (there : Bool) (old new : Session (ShardingCodec I X) H) : Type 0 where
  pub left : IsLeft state old new
  pub usable : old.failed ≡ false
  pub told : IsTrue (state old.handle).transparent → there ≡ is_some (state old.handle).contents

-- it refused to, and left all else
pub record HasRefusedToTell {I X H : Type 0} (state : H → HandleState) (e : CodecError)
    (old new : Session (ShardingCodec I X) H) : Type 0 where
  pub left : IsLeft state old new
  pub refused : (
      old.failed ≡ false or SessionFailed then
      MayFault (state old.handle) (state new.handle)) e

-- it read the requested cells of the object, and left all else
pub record HasRead {I X H : Type 0} (meaning : ShardingCodec I X → ArraySpec → Meaning) (state : H → HandleState) (requested : Selection)
    (array : Array) (old new : Session (ShardingCodec I X) H) : Type 0 where
  pub left : IsLeft state old new
  pub usable : old.failed ≡ false
  pub answer : IsAnswer old.array_spec requested array
  pub answerable : (meaning old.codec old.array_spec).answerable (length requested.points)
  pub cells : IsTrue (state old.handle).transparent
      → cells_at (object_cells (meaning old.codec old.array_spec).cells old.array_spec (state old.handle).contents) old.array_spec.shape
      requested.points
      ≡ map Some array.elements

-- it refused to read them, and left all else
pub record HasRefusedRead {I X H : Type 0} (meaning : ShardingCodec I X → ArraySpec → Meaning) (inner_meaning : I → ArraySpec → Meaning)
    (index_meaning : X → ArraySpec → Meaning) (state : H → HandleState) (requested : Selection) (e : CodecError)
    (old new : Session (ShardingCodec I X) H) : Type 0 where
  pub left : IsLeft state old new
  pub fault : IsCounted (state old.handle) (state new.handle) e
  pub refused : RefusedBy (
      old.failed ≡ false or SessionFailed then
      RequestRefusals old.array_spec requested (meaning old.codec old.array_spec).answerable (
      ObjectRefusals (state old.handle) (state new.handle) (
      ObjectCellsRefusals inner_meaning index_meaning old.codec old.array_spec (state old.handle).contents requested.points))) e

-- it wrote elements over the requested cells
pub record HasWritten {I X H : Type 0} (meaning : ShardingCodec I X → ArraySpec → Meaning) (inner_meaning : I → ArraySpec → Meaning)
    (index_meaning : X → ArraySpec → Meaning) (state : H → HandleState) (requested : Selection) (array : Array)
    (old new : Session (ShardingCodec I X) H) : Type 0 where
  pub done : IsDone state old new
  pub update : IsUpdateOf old.array_spec.shape old.array_spec.data_type requested array
  pub written : IsTrue (state old.handle).transparent → IfSome requested.subset (λ subset.
      IsWritten inner_meaning index_meaning old.codec old.array_spec subset array.elements
      (state old.handle).contents old.index (state new.handle).contents new.index)
  pub cells : IsTrue (state old.handle).transparent → IfSome requested.subset (λ subset.
      AreOverlaid old.array_spec.shape subset array.elements
      (object_cells (meaning old.codec old.array_spec).cells old.array_spec (state old.handle).contents)
      (object_cells (meaning old.codec old.array_spec).cells old.array_spec (state new.handle).contents))

-- it refused to write them: it left all else, or it is failed from now on
pub record HasRefusedWrite {I X H : Type 0} (inner_meaning : I → ArraySpec → Meaning) (index_meaning : X → ArraySpec → Meaning)
    (state : H → HandleState) (requested : Selection) (array : Array) (e : CodecError) (old new : Session (ShardingCodec I X) H) :
    Type 0 where
  pub failed : IsLeftOrFailed state old new e
  pub fault : IsCounted (state old.handle) (state new.handle) e
  pub refused : RefusedBy (
      old.failed ≡ false or SessionFailed then
      UpdateRefusals old.array_spec.shape old.array_spec.data_type requested array (
      ObjectRefusals (state old.handle) (state new.handle) (
      SubsetIndexerRefusals requested.subset (λ subset.
      WrittenRefusals inner_meaning index_meaning old.codec old.array_spec subset array.elements (state old.handle).contents old.index)))) e

-- it let the object go
pub record HasErased {I X H : Type 0} (state : H → HandleState) (old new : Session (ShardingCodec I X) H) : Type 0 where
  pub done : IsDone state old new
  pub erased : IsTrue (state old.handle).transparent → (state new.handle).contents ≡ None
  pub absent : (new.len ≡ 0) × (new.index ≡ absent_index (subchunks_of new.codec new.array_spec))

-- it refused to: it left all else, or it is failed from now on
pub record HasRefusedErasure {I X H : Type 0} (state : H → HandleState) (e : CodecError)
    (old new : Session (ShardingCodec I X) H) : Type 0 where
  pub failed : IsLeftOrFailed state old new e
  pub refused : (
      old.failed ≡ false or SessionFailed then
      MayFault (state old.handle) (state new.handle)) e
