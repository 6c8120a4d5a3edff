-- The statuses of calls: 0 is Ok, 1 to 17 are the numbers of the codec's refusals, and from 64 on stand those of this library alone.
use Rattle.std.specs.Prelude.{◌≡◌, ◌⊎◌, ◌==◌, ℕ, if◌then◌else◌, codes}
use Rattle.parts_errors.specs.Words.{Bytes, Refusals}
use Rattle.parts_errors.specs.Order.{RefusedBy}
use Rattle.parts_errors.specs.Errors.{error_number}
use Rattle.parts_errors.specs.declared.error.CodecError.{CodecError}
use Rattle.parts_errors.specs.declared.error.CodecError.TheVariants.{BadIndexEntry}
use Rattle.sharding_c.specs.declared.layout.Change.{Change}
use Rattle.sharding_c.specs.declared.layout.Told.{Told}
use Rattle.sharding_c.specs.declared.status.Refusal.{Refusal}
use Rattle.sharding_c.specs.declared.status.Refusal.TheVariants.{Codec, RoomTooSmall, BadFlags}

abbrev pub status_of : Refusal → ℕ
status_of (Codec error) = error_number error
status_of (RoomTooSmall room) = 64
status_of BadFlags = 65

-- a call is refused with a status, by its tests
pub record IsRefused (tests : Refusal → Type 0) (status : ℕ) : Type 0 where
  pub refusal : Refusal
  pub tested : tests refusal
  pub numbered : status ≡ status_of refusal

-- what a refused call tells: how much room it needs, where that is the refusal, and nothing else
abbrev pub told_after : Refusal → Told → Told
told_after (Codec error) told = told
told_after (RoomTooSmall room) told = record { room = room; subchunk = told.subchunk }
told_after BadFlags told = told

-- a call is refused with a status, by its tests, and tells why
pub record IsRefusedTelling (tests : Refusal → Type 0) (status : ℕ) (old new : Told) : Type 0 where
  pub refusal : Refusal
  pub tested : tests refusal
  pub numbered : status ≡ status_of refusal
  pub told : new ≡ told_after refusal old

-- what a refused change tells: how much room it needs, or the subchunk whose index entry is bad, and nothing else
abbrev pub changed_after : Refusal → Change → Change
changed_after (Codec (BadIndexEntry number)) change = record change { subchunk = number }
changed_after (Codec error) change = change
changed_after (RoomTooSmall room) change = record change { room = room }
changed_after BadFlags change = change

-- a change is refused with a status, by its tests, and tells why
pub record IsRefusedChanging (tests : Refusal → Type 0) (status : ℕ) (old new : Change) : Type 0 where
  pub refusal : Refusal
  pub tested : tests refusal
  pub numbered : status ≡ status_of refusal
  pub told : new ≡ changed_after refusal old

-- where P fails the refusal is r, and where it holds it comes from the later tests
infixr 1 ◌or_refused◌then◌
abbrev pub ◌or_refused◌then◌ : Type 0 → Refusal → (Refusal → Type 0) → Refusal → Type 0
P or_refused r then later = λ it. ((¬ P) × (it ≡ r)) ⊎ (P × later it)

-- tests of the codec, which find P where they pass
infixr 1 ◌or_refused_by◌then◌
abbrev pub ◌or_refused_by◌then◌ : Type 0 → Refusals → (Refusal → Type 0) → Refusal → Type 0
P or_refused_by tests then later = λ it. ((error : CodecError) × (it ≡ Codec error) × RefusedBy tests error) ⊎ (P × later it)

-- no test is left
abbrev pub passed : Refusal → Type 0
passed it = ⊥

-- the name of a status
abbrev pub status_name : ℕ → Bytes
status_name status =
    if status == 0 then codes "Ok" else if status == 1 then codes "OutOfMemory" else if status == 2 then codes "TooLarge"
    else if status == 3 then codes "IncompatibleDimensionality" else if status == 4 then codes "OutOfBounds"
    else if status == 5 then codes "InvalidNumberOfElements" else if status == 6 then codes "InvalidSubchunkShape"
    else if status == 7 then codes "ShardTooShort" else if status == 8 then codes "VariableIndexSize"
    else if status == 9 then codes "BadIndexEntry" else if status == 10 then codes "UnsupportedDataType"
    else if status == 11 then codes "BadFillValue" else if status == 12 then codes "WrongElementKind"
    else if status == 13 then codes "UnsupportedIndexer" else if status == 14 then codes "CannotEncode"
    else if status == 15 then codes "Damaged" else if status == 16 then codes "Fault" else if status == 17 then codes "SessionFailed"
    else if status == 64 then codes "RoomTooSmall" else if status == 65 then codes "BadFlags" else codes "Unknown"
