-- How a chunk of a new array that has elements of an old one is refused.
use Rattle.std.specs.Prelude.{◌≡◌, ◌⊎◌, ℕ, Bool, IsTrue, List, Option}
use Rattle.parts_errors.specs.Words.{Bytes}
use Rattle.parts_errors.specs.declared.error.CodecError.{CodecError}
use Rattle.parts_errors.specs.declared.error.CodecError.TheVariants.{OutOfMemory}
use Rattle.parts_row_major.specs.Subsets.{Subset}
use Rattle.parts_arrays.specs.Arrays.{fixed_array}
use Rattle.codec_traits.specs.Meanings.{Meaning}
use Rattle.array_grid.specs.Cells.{CellsOfSubset}
use Rattle.array_cli.specs.ChunkParts.{LiesInChunk}
use Rattle.array_cli.specs.ChunkRefusals.{IsChunkRefusal}
use Rattle.array_store.specs.ArrayElements.{AreElementsAt}
use Rattle.array_store.specs.declared.error.ArrayError.{ArrayError}
use Rattle.array_store.specs.declared.error.ArrayError.TheVariants.{Whole}

-- the elements of a subset of an array are read, which a transparent store tells, and are then refused as those of a chunk
pub record RefusesElements
    (transparent : Bool) (element : List ℕ → Option Bytes) (subset : Subset) (codec : Meaning) (fill : Bytes) (chunk : List ℕ)
    (error : ArrayError) : Type 0 where
  pub cells : CellsOfSubset
  pub read : IsTrue transparent → AreElementsAt element subset cells
  pub refusal : CodecError
  pub refused : IsChunkRefusal codec fill subset.shape chunk (fixed_array cells.element_size cells.bytes) refusal
  pub whole : error ≡ Whole refusal

-- a chunk of a new array is refused as the part of the old array is that lies in it, or for memory
pub record RefusesPart
    (refuses : Subset → ArrayError → Type 0) (shape coordinates chunk : List ℕ) (error : ArrayError) : Type 0 where
  pub part : Subset
  pub lies : LiesInChunk coordinates chunk shape part
  pub refused : refuses part error

abbrev pub IsRefusalOfPart : (Subset → ArrayError → Type 0) → List ℕ → List ℕ → List ℕ → ArrayError → Type 0
IsRefusalOfPart refuses shape coordinates chunk error =
    (error ≡ Whole OutOfMemory) ⊎ RefusesPart refuses shape coordinates chunk error
