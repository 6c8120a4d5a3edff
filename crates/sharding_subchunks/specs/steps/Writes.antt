-- Subchunks of a shard written to where they lie among other elements.
use Rattle.std.specs.Prelude.{◌≡◌, ◌≢◌, ◌<◌, ℕ, Some}
use Rattle.parts_errors.specs.Words.{Bytes, CellsOf}
use Rattle.parts_row_major.specs.Subsets.{Subset}
use Rattle.parts_arrays.specs.declared.target.FixedTarget.{FixedTarget}
use Rattle.parts_arrays.specs.Targets.{IsPartWritten}
use Rattle.sharding_format.specs.Cells.{cell_in}
use Rattle.sharding_format.specs.DecodeRefusals.{HasArray}
use Rattle.sharding_format.specs.declared.slot.Slot.{Slot}
use Rattle.sharding_format.specs.declared.slot.Slot.TheVariants.{Absent}

-- the cells of the subchunk that a slot names stand where `position` says, in row-major order; where it is absent they do if fill values
-- stood there before. All other elements are as before
pub record IsSlotWritten (inner_cells : CellsOf) (fill b : Bytes) (slot : Slot) (positions : ℕ) (position : ℕ → ℕ)
    (old new : ℕ → Bytes) : Type 0 where
  pub there : HasArray inner_cells b slot
  pub inside : (p : ℕ) → p < positions → (slot ≡ Absent → old (position p) ≡ fill)
      → cell_in inner_cells fill b slot p ≡ Some (new (position p))
  pub outside : (i : ℕ) → ((p : ℕ) → p < positions → position p ≢ i) → new i ≡ old i

-- the cells of the subchunk that a slot names, which are all there, overwrote a subset of a target's array in row-major order
pub record IsSlotPut (inner_cells : CellsOf) (fill b : Bytes) (slot : Slot) (positions : ℕ) (position : Subset)
    (old new : FixedTarget) : Type 0 where
  pub there : HasArray inner_cells b slot
  pub element : ℕ → Bytes
  pub cells : (p : ℕ) → p < positions → cell_in inner_cells fill b slot p ≡ Some (element p)
  pub written : IsPartWritten old new position element

-- cells of the subchunk that a slot names, of places that `from` names, overwrote a subset of a target's array in row-major order: `told`
-- says whether the bytes are known
pub record IsPartPut (told : Type 0) (inner_cells : CellsOf) (fill b : Bytes) (slot : Slot) (many : ℕ) (from : ℕ → ℕ)
    (position : Subset) (old new : FixedTarget) : Type 0 where
  pub element : ℕ → Bytes
  pub cells : told → (r : ℕ) → r < many → cell_in inner_cells fill b slot (from r) ≡ Some (element r)
  pub written : IsPartWritten old new position element
