-- The old cells of a subchunk that a write touches.
use Rattle.std.specs.Prelude.{◌≡◌, ◌≤◌, ◌<◌, ◌^◌, ⊤, ℕ, ◌*◌, List, [], Option, Some, length, slice_index_or}
use Rattle.parts_errors.specs.Words.{Bytes, Elements, CellsOf}
use Rattle.parts_errors.specs.declared.error.CodecError.{CodecError}
use Rattle.parts_errors.specs.declared.error.CodecError.TheVariants.{TooLarge}
use Rattle.storage_handles.specs.Objects.{HasInterval}
use Rattle.codec_traits.specs.Meanings.{Meaning}
use Rattle.sharding_format.specs.Cells.{cell_in}
use Rattle.sharding_format.specs.DecodeRefusals.{RefusesSubchunk}
use Rattle.sharding_format.specs.declared.slot.Slot.{Slot}
use Rattle.sharding_format.specs.declared.slot.Slot.TheVariants.{Absent, InRange, Bad}

-- a slot's slice lies in an object, which is there
abbrev pub HasSlice : Option Bytes → Slot → Type 0
HasSlice contents Absent = ⊤
HasSlice contents (InRange offset size) = HasInterval (record { offset = offset; size = size }) contents
HasSlice contents Bad = ⊤

-- these are the cells of the subchunk that a slot names
abbrev pub AreCellsOf : CellsOf → (fill bytes : List ℕ) → Slot → (positions : ℕ) → Elements → Type 0
AreCellsOf inner_cells fill bytes slot positions elements =
    (p : ℕ) → p < positions → cell_in inner_cells fill bytes slot p ≡ Some (slice_index_or elements p [])

-- the old cells of a subchunk may be refused: those of a slice as the inner codec refuses it, and fill values whose lengths are too
-- large together
abbrev pub RefusesOld : (inner : Meaning) → (positions : ℕ) → (fill bytes : List ℕ) → Slot → (k : ℕ) → CodecError → Type 0
RefusesOld inner positions fill bytes Absent k e = (e ≡ TooLarge) × (2 ^ 64 ≤ positions * length fill)
RefusesOld inner positions fill bytes (InRange offset size) k e =
    RefusesSubchunk inner.decode_refusals inner.cells bytes (InRange offset size) k e
RefusesOld inner positions fill bytes Bad k e = RefusesSubchunk inner.decode_refusals inner.cells bytes Bad k e
