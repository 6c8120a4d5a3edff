-- New subchunks that are laid one after the other, whatever they were made of.
use Rattle.std.specs.Prelude.{◌≡◌, ◌<◌, ℕ, ◌++◌, Bool, IsTrue, List, [], length, slice_index, slice_index_or}
use Rattle.parts_errors.specs.Words.{Bytes, Elements, CellsOf}
use Rattle.parts_row_major.specs.Subsets.{Subset}
use Rattle.parts_arrays.specs.ArraySpec.{ArraySpec, IsArrayOf}
use Rattle.codec_traits.specs.Meanings.{Meaning}
use Rattle.sharding_format.specs.Cells.{cell_in}
use Rattle.sharding_format.specs.DecodeRefusals.{HasArray}
use Rattle.sharding_format.specs.Laying.{IsStoredAfter}
use Rattle.sharding_format.specs.declared.slot.Slot.{Slot}
use Rattle.sharding_write.specs.Writing.{AreNewCells, AreCellsOf, AreStoredInRow, cells_in}
use Rattle.sharding_write.specs.WriteRefusals.{Straddles}

-- so many bytes, with P, stand after the old ones, which stay
pub record IsPutAfter (old new : Bytes) (size : ℕ) (P : Bytes → Type 0) : Type 0 where
  pub part : Bytes
  pub long : length part ≡ size
  pub appended : new ≡ old ++ part
  pub holds : P part

-- the elements are the cells of the subchunk that a slot names, which are there
pub record AreOldCells (inner_cells : CellsOf) (fill bytes : List ℕ) (slot : Slot) (positions : ℕ) (elements : Elements) : Type 0 where
  pub array : HasArray inner_cells bytes slot
  pub cells : AreCellsOf inner_cells fill bytes slot positions elements

-- what is to be stored of the new cells of subchunk k stands after the old slices, and the new slot says where; `old` is its slot in
-- the shard before, of which something is said where the handle is transparent
pub record IsNewAfter (inner : Meaning) (shape : List ℕ) (sub_g : ArraySpec) (subset : Subset) (update : Elements) (transparent : Bool)
    (bytes : List ℕ) (old : Slot) (k : ℕ) (before after : Bytes) (slot : Slot) : Type 0 where
  pub elements : Elements
  pub array : IsArrayOf sub_g elements
  pub cells : IsTrue transparent → AreNewCells shape sub_g subset update (cell_in inner.cells sub_g.fill bytes old) k elements
  pub passed : IsTrue transparent → Straddles shape sub_g.shape subset k → HasArray inner.cells bytes old
  pub stored : IsStoredAfter inner.written sub_g.fill elements before after slot

-- the first n of the touched subchunks stand with their new cells, one after the other
pub record AreNewSlices (inner : Meaning) (shape : List ℕ) (sub_g : ArraySpec) (subset : Subset) (update : Elements) (transparent : Bool)
    (bytes numbers touched : List ℕ) (slices : Bytes) (slots : List Slot) (n : ℕ) : Type 0 where
  pub news : List Elements
  pub counted : length news ≡ n
  pub arrays : (j : ℕ) → j < n → IsArrayOf sub_g (slice_index_or news j [])
  pub cells : IsTrue transparent → (j : ℕ) → j < n
      → AreNewCells shape sub_g subset update (cells_in inner.cells sub_g.fill bytes numbers (slice_index touched j))
      (slice_index touched j)
      (slice_index_or news j [])
  pub stored_slices : AreStoredInRow inner.written sub_g.fill (λ j. slice_index_or news j []) slices slots n
