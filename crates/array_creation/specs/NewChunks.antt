-- A chunk of a new array that has elements of an old one.
use Rattle.std.specs.Prelude.{◌≡◌, ◌+◌, ◌⊎◌, ℕ, List, Option, None}
use Rattle.parts_errors.specs.Words.{Bytes}
use Rattle.parts_row_major.specs.Numbering.{zip_with}
use Rattle.parts_row_major.specs.Subsets.{Subset}
use Rattle.parts_arrays.specs.Arrays.{fixed_array}
use Rattle.array_grid.specs.Cells.{CellsOfSubset}
use Rattle.array_cli.specs.ChunkParts.{IsBehind, LiesInChunk}
use Rattle.array_cli.specs.NewChunks.{IsStoredChunk}
use Rattle.array_store.specs.ArrayElements.{AreElementsAt}

-- a part of the subset of an array that starts at an origin, as a subset of the array
abbrev pub moved_by : List ℕ → Subset → Subset
moved_by origin part = record { start = zip_with ◌+◌ origin part.start; shape = part.shape }

-- what is stored of a chunk: its elements are those of a subset of an array, which stand at its start, and the fill value behind them
pub record IsChunkOfSubset
    (element : List ℕ → Option Bytes) (subset : Subset) (encodings : List Bytes → Bytes → Type 0) (fill : Bytes) (chunk : List ℕ)
    (object : Option Bytes) : Type 0 where
  pub cells : CellsOfSubset
  pub read : AreElementsAt element subset cells
  pub stored : IsStoredChunk encodings fill subset.shape chunk (fixed_array cells.element_size cells.bytes) object

-- its elements are those of the part of an array of a shape that lies in the chunk at some coordinates of the chunk grid
pub record IsChunkOfPart
    (element : List ℕ → Option Bytes) (shape coordinates : List ℕ) (encodings : List Bytes → Bytes → Type 0) (fill : Bytes) (chunk : List ℕ)
    (object : Option Bytes) : Type 0 where
  pub part : Subset
  pub lies : LiesInChunk coordinates chunk shape part
  pub stored : IsChunkOfSubset element part encodings fill chunk object

-- of a chunk that begins behind the end of the array nothing is stored
abbrev pub IsChunkOfArray :
    (List ℕ → Option Bytes) → List ℕ → List ℕ → (List Bytes → Bytes → Type 0) → Bytes → List ℕ → Option Bytes → Type 0
IsChunkOfArray element shape coordinates encodings fill chunk object =
    IsChunkOfPart element shape coordinates encodings fill chunk object ⊎ ((object ≡ None) × IsBehind coordinates chunk shape)
