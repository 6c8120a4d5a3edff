-- What a write of a subset leaves of an array.
use Rattle.std.specs.Prelude.{◌≡◌, ◌≢◌, ◌<◌, ◌≤◌, ℕ, List, Option, Some, length, slice_index, string_bytes}
use Rattle.std.specs.List.{Contains}
use Rattle.parts_errors.specs.Words.{Bytes, CellsOf}
use Rattle.parts_errors.specs.declared.error.CodecError.TheVariants.{Fault}
use Rattle.parts_row_major.specs.Numbering.{count_of, IsInside, number_of}
use Rattle.parts_row_major.specs.Subsets.{Subset, point_in}
use Rattle.parts_subsets.specs.Grid.{grid_of, subchunk_of}
use Rattle.parts_subsets.specs.Touched.{AreTouched}
use Rattle.sharding_plans.specs.Chunks.{whole_chunks}
use Rattle.array_fields.specs.ChunkKeys.{chunk_key}
use Rattle.array_store.specs.ArrayElements.{element_at}
use Rattle.array_store.specs.Stores.{StoreState}
use Rattle.array_store.specs.declared.error.ArrayError.{ArrayError}
use Rattle.array_store.specs.declared.error.ArrayError.TheVariants.{Whole, Chunk}
use Rattle.array_store.specs.declared.format.ArrayFormat.{ArrayFormat}

-- the key of the chunk in which a point of an array lies
abbrev pub key_at : ArrayFormat → List ℕ → Bytes
key_at format point = chunk_key format.keys (subchunk_of point format.chunk.now)

-- the number of that chunk in the chunk grid
abbrev pub chunk_number : ArrayFormat → List ℕ → ℕ
chunk_number format point =
    number_of (subchunk_of point format.chunk.now) (grid_of (whole_chunks format.shape.now format.chunk.now) format.chunk.now)

-- an array after a write of a subset: at the subset's points stand the elements that were written, and elsewhere what stood there
pub record IsArrayWritten (old new : List ℕ → Option Bytes) (shape : List ℕ) (subset : Subset) (update : ℕ → Bytes) : Type 0 where
  pub inside : (q : ℕ) → q < count_of subset.shape → new (point_in subset q) ≡ Some (update q)
  pub outside : (point : List ℕ) → IsInside point shape → ((q : ℕ) → q < count_of subset.shape → point ≢ point_in subset q)
      → new point ≡ old point

-- a store after a write holds what it held under each key that is of no chunk in which a point of the subset lies
abbrev pub AreOthersKept : ArrayFormat → Subset → StoreState → StoreState → Type 0
AreOthersKept format subset old new =
    (key : Bytes) → ((q : ℕ) → q < count_of subset.shape → key ≢ key_at format (point_in subset q)) → new.contents key ≡ old.contents key

-- a refusal is a fault at the chunk of a key: what stands there is then not known
abbrev pub IsFaultAt : ArrayError → Bytes → Type 0
IsFaultAt (Whole e) key = ⊥
IsFaultAt (Chunk named e) key = (e ≡ Fault) × (string_bytes named ≡ key)

-- an array after a write that was refused: the elements stand in the chunks that are listed, the first of those that the subset meets;
-- elsewhere stands what stood there, save in a chunk that is named with a fault
pub record IsWriteStopped (format : ArrayFormat) (cells : CellsOf) (subset : Subset) (update : ℕ → Bytes) (written : List ℕ)
    (error : ArrayError) (old new : Bytes → Option Bytes) : Type 0 where
  pub first : (touched : List ℕ) → AreTouched (whole_chunks format.shape.now format.chunk.now) format.chunk.now subset touched
      → (length written ≤ length touched) × ((i : ℕ) → i < length written → slice_index touched i ≡ slice_index written i)
  pub inside : (q : ℕ) → q < count_of subset.shape → Contains written (chunk_number format (point_in subset q))
      → element_at new format cells (point_in subset q) ≡ Some (update q)
  pub outside : (point : List ℕ) → IsInside point format.shape.now
      → ((q : ℕ) → q < count_of subset.shape → Contains written (chunk_number format (point_in subset q)) → point ≢ point_in subset q)
      → ¬ IsFaultAt error (key_at format point) → element_at new format cells point ≡ element_at old format cells point
