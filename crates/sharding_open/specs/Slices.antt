-- The bytes of a subchunk, by the cached index.
use Rattle.std.specs.Prelude.{◌≡◌, ◌≢◌, ℕ, List, Option, Some, None, length}
use Rattle.parts_errors.specs.Words.{Refusals}
use Rattle.parts_errors.specs.declared.error.CodecError.{CodecError}
use Rattle.parts_errors.specs.declared.error.CodecError.TheVariants.{IncompatibleDimensionality, OutOfBounds, BadIndexEntry}
use Rattle.parts_errors.specs.Order.{◌or◌then◌}
use Rattle.parts_row_major.specs.Numbering.{number_of, IsInside}
use Rattle.storage_handles.specs.Handles.{HandleState, WasRead}
use Rattle.storage_handles.specs.declared.bytes.ByteRange.{ByteRange}
use Rattle.storage_handles.specs.declared.bytes.ByteRange.TheVariants.{FromStart}
use Rattle.sharding_format.specs.Index.{slot_at}
use Rattle.sharding_format.specs.declared.slot.Slot.{Slot}
use Rattle.sharding_format.specs.declared.slot.Slot.TheVariants.{Absent, InRange, Bad}

-- what the cached index says of subchunk k: without an object each is absent
abbrev pub cached_slot : ℕ → Option (List ℕ) → ℕ → Slot
cached_slot len None k = Absent
cached_slot len (Some numbers) k = slot_at len numbers k

-- the range of the bytes that a slot names: none where the subchunk is absent
abbrev pub IsRangeOf : Slot → Option ByteRange → Type 0
IsRangeOf Absent range = range ≡ None
IsRangeOf (InRange offset size) range = range ≡ Some (FromStart offset (Some size))
IsRangeOf Bad range = ⊥

-- what is read of the bytes that a slot names: none where the subchunk is absent; of contents that are told, just these bytes
abbrev pub IsSliceRead : Slot → HandleState → Option (List ℕ) → Type 0
IsSliceRead Absent state answer = answer ≡ None
IsSliceRead (InRange offset size) state answer = WasRead (FromStart offset (Some size)) state answer
IsSliceRead Bad state answer = ⊥

-- the tests of a subchunk of a grid that is asked by its coordinate, and of which an index says this
abbrev pub SlotRefusals : (grid subchunk : List ℕ) → Slot → Refusals → CodecError → Type 0
SlotRefusals grid subchunk slot later =
    length subchunk ≡ length grid or IncompatibleDimensionality then
    IsInside subchunk grid or OutOfBounds then
    slot ≢ Bad or BadIndexEntry (number_of subchunk grid) then
    later
