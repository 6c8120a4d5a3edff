-- A subset that is read chunk by chunk.
use Rattle.std.specs.Prelude.{◌≡◌, ◌≢◌, ◌<◌, ℕ, List, Option, Some, length, slice_index, string_bytes}
use Rattle.parts_errors.specs.Words.{Bytes}
use Rattle.parts_row_major.specs.Numbering.{count_of}
use Rattle.parts_row_major.specs.Pieces.{piece, IsUpdated}
use Rattle.parts_row_major.specs.Subsets.{Subset, number_in}
use Rattle.parts_subsets.specs.Grid.{subchunk_number}
use Rattle.parts_errors.specs.declared.error.CodecError.TheVariants.{OutOfMemory}
use Rattle.array_grid.specs.Cells.{CellsOfSubset}
use Rattle.array_store.specs.declared.error.ArrayError.{ArrayError}
use Rattle.array_store.specs.declared.error.ArrayError.TheVariants.{Whole, Chunk}

-- a refusal is for memory, or names a key
abbrev pub IsRefusalAt : Bytes → ArrayError → Type 0
IsRefusalAt key (Whole e) = e ≡ OutOfMemory
IsRefusalAt key (Chunk named e) = string_bytes named ≡ key

-- the cells of a chunk stand among the elements of a subset where a part of the chunk lies in it, and all others are as they were
abbrev pub IsPartPut : (ℕ → Option Bytes) → List ℕ → Subset → Subset → CellsOfSubset → CellsOfSubset → Type 0
IsPartPut cell chunk in_chunk in_subset old new =
    IsUpdated (count_of in_subset.shape) (number_in in_subset old.shape) (λ q. Some (piece old.element_size old.bytes q))
    (λ r. cell (number_in in_chunk chunk r)) (λ q. Some (piece old.element_size new.bytes q))

-- the number of the chunk in which a point of a subset lies, in the grid of a shape that is rounded up to whole chunks
abbrev pub chunk_at : List ℕ → List ℕ → Subset → ℕ → ℕ
chunk_at whole chunk subset q = subchunk_number whole chunk (number_in subset whole q)

-- a chunk has been read: its element stands at each point of it, and other points have what they had
pub record IsChunkRead (element : ℕ → Option Bytes) (chunk_of : ℕ → ℕ) (count number : ℕ) (old new : ℕ → Bytes) : Type 0 where
  pub here : (q : ℕ) → q < count → chunk_of q ≡ number → element q ≡ Some (new q)
  pub others : (q : ℕ) → q < count → chunk_of q ≢ number → new q ≡ old q

-- of the chunks that a subset touches those before a place have been read: their elements stand at their points
abbrev pub AreReadTo : (ℕ → Option Bytes) → (ℕ → ℕ) → ℕ → List ℕ → ℕ → (ℕ → Bytes) → Type 0
AreReadTo element chunk_of count touched place bytes =
    (i q : ℕ) → i < place → i < length touched → q < count → chunk_of q ≡ slice_index touched i → element q ≡ Some (bytes q)
