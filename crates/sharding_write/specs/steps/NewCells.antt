-- What the steps of a write answer of new cells, and what they ask of an index that is held.
use Rattle.std.specs.Prelude.{◌≡◌, ◌<◌, ◌*◌, ℕ, Bool, IsTrue, List, length, slice_index}
use Rattle.parts_errors.specs.Words.{Elements}
use Rattle.parts_row_major.specs.Subsets.{Subset}
use Rattle.parts_arrays.specs.Types.{size_of}
use Rattle.parts_arrays.specs.ArraySpec.{ArraySpec, IsArrayOf}
use Rattle.parts_arrays.specs.Arrays.{Array}
use Rattle.storage_handles.specs.Handles.{HandleState}
use Rattle.storage_handles.specs.Writes.{bytes_of}
use Rattle.codec_traits.specs.Meanings.{Meaning}
use Rattle.sharding_format.specs.Index.{slot_at}
use Rattle.sharding_format.specs.Cells.{cell_in}
use Rattle.sharding_format.specs.declared.slot.Slot.{Slot}
use Rattle.sharding_write.specs.OldCells.{HasSlice}
use Rattle.sharding_write.specs.Writing.{AreNewCells, array_at}

-- an index that is held of an object has a pair of numbers for each of n subchunks; and where the handle is transparent, the length is
-- the object's, and the slice of each subchunk lies in it
pub record HoldsSlices (state : HandleState) (n len : ℕ) (numbers : List ℕ) : Type 0 where
  pub counted : length numbers ≡ 2 * n
  pub long : IsTrue state.transparent → length (bytes_of state.contents) ≡ len
  pub there : IsTrue state.transparent → (k : ℕ) → k < n → HasSlice state.contents (slot_at len numbers k)

-- an array for subchunk k of the kind of its data type, with its new cells; `old` is its slot in the shard before, of which something is
-- said where the handle is transparent
pub record IsNewArray (inner : Meaning) (shape : List ℕ) (sub_g : ArraySpec) (subset : Subset) (update : Elements) (transparent : Bool)
    (bytes : List ℕ) (old : Slot) (k : ℕ) (new : Array) : Type 0 where
  pub kind : new.kind ≡ size_of sub_g.data_type
  pub array : IsArrayOf sub_g new.elements
  pub cells : IsTrue transparent → AreNewCells shape sub_g subset update (cell_in inner.cells sub_g.fill bytes old) k new.elements

-- an array for each of the touched subchunks, with its new cells
pub record AreNewArrays (inner : Meaning) (shape : List ℕ) (sub_g : ArraySpec) (subset : Subset) (update : Elements) (transparent : Bool)
    (bytes numbers touched : List ℕ) (news : List Array) : Type 0 where
  pub counted : length news ≡ length touched
  pub each : (j : ℕ) → j < length news
      → IsNewArray inner shape sub_g subset update transparent bytes (slot_at (length bytes) numbers (slice_index touched j))
      (slice_index touched j) (array_at news j)
