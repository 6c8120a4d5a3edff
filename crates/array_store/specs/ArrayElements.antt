-- What an array over a store holds.
use Rattle.std.specs.Prelude.{◌≡◌, ◌<◌, ℕ, List, Option, Some, None, slice_index_or}
use Rattle.parts_errors.specs.Words.{Bytes, CellsOf}
use Rattle.parts_row_major.specs.Numbering.{count_of, number_of}
use Rattle.parts_row_major.specs.Pieces.{piece}
use Rattle.parts_row_major.specs.Subsets.{Subset, point_in}
use Rattle.parts_subsets.specs.Grid.{subchunk_of, position_of}
use Rattle.parts_arrays.specs.ArraySpec.{ArraySpec, array_spec}
use Rattle.array_grid.specs.Cells.{CellsOfSubset}
use Rattle.array_fields.specs.ChunkKeys.{chunk_key}
use Rattle.array_store.specs.declared.format.ArrayFormat.{ArrayFormat}

-- what the codec of an array is asked to serve: its chunks
abbrev pub chunk_spec : ArrayFormat → ArraySpec
chunk_spec format = array_spec format.chunk.now format.data_type.now format.fill_value.now

-- the cell at a place of a chunk: what the bytes of its object stand for there, and the fill value where there is no object
abbrev pub cell_of : CellsOf → Bytes → Option Bytes → ℕ → Option Bytes
cell_of cells fill None place = Some fill
cell_of cells fill (Some bytes) place = slice_index_or (cells bytes) place None

-- the object of the chunk at some coordinates of the chunk grid
abbrev pub object_of : (Bytes → Option Bytes) → ArrayFormat → List ℕ → Option Bytes
object_of contents format coordinates = contents (chunk_key format.keys coordinates)

-- the element of an array at a point: the cell of the chunk in which the point lies, at its position there
unfoldable pub element_at : (Bytes → Option Bytes) → ArrayFormat → CellsOf → List ℕ → Option Bytes
element_at contents format cells point =
    let chunk = format.chunk.now in
    cell_of cells format.fill_value.now (object_of contents format (subchunk_of point chunk)) (number_of (position_of point chunk) chunk)

-- elements of one size, in row-major order of a subset, are those that an array has at its points
abbrev pub AreElementsAt : (List ℕ → Option Bytes) → Subset → CellsOfSubset → Type 0
AreElementsAt element subset cells =
    (q : ℕ) → q < count_of subset.shape → element (point_in subset q) ≡ Some (piece cells.element_size cells.bytes q)
