-- The steps of decoding: each subchunk that is there decoded, and the cells of the shard gathered from them.
use Rattle.std.specs.Prelude.{◌≡◌, ◌≤◌, ◌<◌, ℕ, ◌+◌, ◌*◌, List, [], Option, Some, None, map, length, slice_index_or}
use Rattle.std.specs.List.{All, sum_by}
use Rattle.parts_errors.specs.Words.{CellsOf}
use Rattle.parts_row_major.specs.Numbering.{count_of}
use Rattle.parts_subsets.specs.Grid.{subchunk_number, position_number}
use Rattle.parts_arrays.specs.ArraySpec.{ArraySpec, IsArrayOf}
use Rattle.parts_arrays.specs.Types.{FitsKind}
use Rattle.parts_arrays.specs.Arrays.{Array}
use Rattle.parts_arrays.specs.declared.data_type.DataTypeSize.{DataTypeSize}
use Rattle.sharding_format.specs.Index.{slice_at}
use Rattle.sharding_format.specs.declared.slot.Slot.{Slot}
use Rattle.sharding_format.specs.declared.slot.Slot.TheVariants.{Absent, InRange, Bad}

-- a subchunk as it was decoded: nothing where it is absent
abbrev pub IsDecoded : CellsOf → ArraySpec → List ℕ → Slot → Option Array → Type 0
IsDecoded inner_cells sub_g bytes Absent None = Unit {0}
IsDecoded inner_cells sub_g bytes Absent (Some a) = ⊥
IsDecoded inner_cells sub_g bytes (InRange offset size) None = ⊥
IsDecoded inner_cells sub_g bytes (InRange offset size) (Some a) = IsArrayOf sub_g a.elements
    × (inner_cells (slice_at offset size bytes) ≡ map Some a.elements)
IsDecoded inner_cells sub_g bytes Bad o = ⊥

-- a slot lies in a shard of so many bytes
abbrev pub FitsSlot : ℕ → Slot → Type 0
FitsSlot len Absent = Unit {0}
FitsSlot len (InRange offset size) = offset + size ≤ len
FitsSlot len Bad = Unit {0}

-- what was decoded or read of so many places of a subchunk: nothing where it is absent, and else an element of this kind for each
abbrev pub IsPartOf : DataTypeSize → ℕ → Option Array → Type 0
IsPartOf kind n None = Unit {0}
IsPartOf kind n (Some a) = (length a.elements ≡ n) × All (FitsKind kind) a.elements

-- so many subchunks
pub record AreChunks (kind : DataTypeSize) (sub : List ℕ) (n : ℕ) (chunks : List (Option Array)) : Type 0 where
  pub counted : length chunks ≡ n
  pub each : (k : ℕ) → k < n → IsPartOf kind (count_of sub) (slice_index_or chunks k None)

-- the element at a place of a decoded subchunk
abbrev pub element_at : List ℕ → Option Array → ℕ → List ℕ
element_at fill None position = fill
element_at fill (Some a) position = slice_index_or a.elements position []

-- cell i of the shard, from its decoded subchunks
abbrev pub element_in : List (Option Array) → List ℕ → List ℕ → List ℕ → ℕ → List ℕ
element_in chunks fill shape sub i =
    element_at fill (slice_index_or chunks (subchunk_number shape sub i) None) (position_number shape sub i)

-- a decoded subchunk has an element of this kind at this place, if it is there
abbrev pub IsChunkOf : DataTypeSize → ℕ → Option Array → Type 0
IsChunkOf kind position None = Unit {0}
IsChunkOf kind position (Some a) = (position < length a.elements) × FitsKind kind (slice_index_or a.elements position [])

-- how many bytes the elements of a decoded subchunk have together: those of a fill value for each of so many places where it is absent
abbrev pub bytes_in : List ℕ → ℕ → Option Array → ℕ
bytes_in fill positions None = positions * length fill
bytes_in fill positions (Some a) = sum_by length a.elements

-- how many bytes the elements of all decoded subchunks have together
abbrev pub bytes_gathered : List ℕ → ℕ → List (Option Array) → ℕ
bytes_gathered fill positions chunks = sum_by (bytes_in fill positions) chunks

-- a slot of a shard whose slices all have one length: absent, or in range of as many
abbrev pub IsOfSize : ℕ → Slot → Type 0
IsOfSize size Absent = Unit {0}
IsOfSize size (InRange offset len) = len ≡ size
IsOfSize size Bad = ⊥
