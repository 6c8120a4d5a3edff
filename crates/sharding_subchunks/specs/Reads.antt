-- What a read of a shard answers, reads of a part of a subchunk to where its cells lie among others, and of one cell behind others.
use Rattle.std.specs.Prelude.{◌≡◌, ◌++◌, ℕ, List, [], Option, Some, IsTrue, length}
use Rattle.std.specs.List.{All}
use Rattle.parts_errors.specs.Words.{Bytes, CellsOf}
use Rattle.parts_row_major.specs.Pieces.{IsUpdated}
use Rattle.parts_arrays.specs.Arrays.{Array}
use Rattle.parts_arrays.specs.Types.{FitsKind}
use Rattle.parts_arrays.specs.declared.data_type.DataTypeSize.{DataTypeSize}
use Rattle.storage_handles.specs.Handles.{HandleState}
use Rattle.sharding_format.specs.steps.Decoding.{element_at}
use Rattle.sharding_format.specs.steps.Reading.{IsReadAt}
use Rattle.sharding_format.specs.declared.slot.Slot.{Slot}
use Rattle.sharding_gather.specs.steps.Gathering.{positions_there}

-- an array holds `many` elements, each of one kind
pub record HasElementsOf (kind : DataTypeSize) (many : ℕ) (array : Array) : Type 0 where
  pub kind_is : array.kind ≡ kind
  pub counted : length array.elements ≡ many
  pub fitting : All (FitsKind kind) array.elements

-- of the subchunk that a slot names the cells at some places were read, and overwrote the elements that `position` names in their order;
-- nothing where it is absent
pub record IsReadInto (inner_cells : CellsOf) (b : Bytes) (slot : Slot) (positions : List ℕ) (position : ℕ → ℕ)
    (old new : ℕ → Bytes) : Type 0 where
  pub part : Option Array
  pub read : IsReadAt inner_cells b slot positions part
  pub written : IsUpdated (positions_there (length positions) part) position old (element_at [] part) new

-- behind the old bytes, which stay, stands an element of so many bytes; of an object that the handle tells it is this cell
pub record IsAppended (size : ℕ) (state : HandleState) (cell : Option (List ℕ)) (old new : List ℕ) : Type 0 where
  pub element : List ℕ
  pub long : length element ≡ size
  pub there : IsTrue state.transparent → cell ≡ Some element
  pub appended : new ≡ old ++ element
