-- A subset that is written chunk by chunk.
use Rattle.std.specs.Prelude.{◌≡◌, ◌≢◌, ◌<◌, ◌^◌, ℕ, List, Option, Some, length, slice_index}
use Rattle.std.specs.List.{All, Contains}
use Rattle.parts_errors.specs.Words.{Bytes}
use Rattle.parts_row_major.specs.Numbering.{AllPositive, count_of, IsInside, point_of}
use Rattle.parts_row_major.specs.Subsets.{Subset, LiesIn, point_in}
use Rattle.parts_subsets.specs.Grid.{grid_of}
use Rattle.parts_subsets.specs.Touched.{AreTouched}
use Rattle.sharding_plans.specs.Chunks.{whole_chunks}
use Rattle.array_fields.specs.ChunkKeys.{chunk_key}
use Rattle.array_grid.specs.Parts.{MeetsShards, SubsetInArray}
use Rattle.array_store.specs.ArrayWrites.{IsFaultAt, key_at, chunk_number}
use Rattle.array_store.specs.declared.error.ArrayError.{ArrayError}
use Rattle.array_store.specs.declared.format.ArrayFormat.{ArrayFormat}

-- the shape of an array, rounded up to whole chunks
abbrev pub whole_of : ArrayFormat → List ℕ
whole_of format = whole_chunks format.shape.now format.chunk.now

-- the parts of a subset of an array are made by its chunk grid, whose axes fit 64 bits, one for each chunk that the subset touches
pub record ArePartsOf (format : ArrayFormat) (subset : Subset) (parts : SubsetInArray) : Type 0 where
  pub array : parts.array ≡ record { shape = format.shape.now; shard = format.chunk.now }
  pub subset_same : parts.subset ≡ subset
  pub axes : length format.shape.now ≡ length format.chunk.now
  pub some : AllPositive format.chunk.now
  pub small : All (λ axis. axis < 2 ^ 64) (whole_of format)
  pub inside : LiesIn subset format.shape.now
  pub met : MeetsShards (record { shape = format.shape.now; shard = format.chunk.now }) subset parts.count

-- the key of the chunk with a place among those that a subset touches
abbrev pub touched_key : ArrayFormat → List ℕ → ℕ → Bytes
touched_key format touched place =
    chunk_key format.keys (point_of (slice_index touched place) (grid_of (whole_of format) format.chunk.now))

-- only under the key of that chunk something else may stand
abbrev pub AreOtherChunksKept : ArrayFormat → Subset → ℕ → (Bytes → Option Bytes) → (Bytes → Option Bytes) → Type 0
AreOtherChunksKept format subset place old new =
    (touched : List ℕ) → AreTouched (whole_of format) format.chunk.now subset touched
    → (key : Bytes) → key ≢ touched_key format touched place → new key ≡ old key

-- the elements of a subset have been written that lie in one chunk, and all others are as they were
pub record IsChunkWritten (format : ArrayFormat) (subset : Subset) (update : ℕ → Bytes) (number : ℕ)
    (old new : List ℕ → Option Bytes) : Type 0 where
  pub here : (q : ℕ) → q < count_of subset.shape → chunk_number format (point_in subset q) ≡ number
      → new (point_in subset q) ≡ Some (update q)
  pub others : (point : List ℕ) → IsInside point (whole_of format)
      → ((q : ℕ) → q < count_of subset.shape → chunk_number format (point_in subset q) ≡ number → point ≢ point_in subset q)
      → new point ≡ old point

-- the elements of a subset have been written that lie in chunks of a list, and all others are as they were
pub record AreWrittenTo (format : ArrayFormat) (subset : Subset) (update : ℕ → Bytes) (written : List ℕ)
    (old new : List ℕ → Option Bytes) : Type 0 where
  pub done : (q : ℕ) → q < count_of subset.shape → Contains written (chunk_number format (point_in subset q))
      → new (point_in subset q) ≡ Some (update q)
  pub left : (point : List ℕ) → IsInside point (whole_of format)
      → ((q : ℕ) → q < count_of subset.shape → Contains written (chunk_number format (point_in subset q)) → point ≢ point_in subset q)
      → new point ≡ old point

-- the same after a refusal, but for the chunk that it names with a fault
pub record AreStoppedAt (format : ArrayFormat) (subset : Subset) (update : ℕ → Bytes) (written : List ℕ) (error : ArrayError)
    (old new : List ℕ → Option Bytes) : Type 0 where
  pub done : (q : ℕ) → q < count_of subset.shape → Contains written (chunk_number format (point_in subset q))
      → new (point_in subset q) ≡ Some (update q)
  pub left : (point : List ℕ) → IsInside point (whole_of format)
      → ((q : ℕ) → q < count_of subset.shape → Contains written (chunk_number format (point_in subset q)) → point ≢ point_in subset q)
      → ¬ IsFaultAt error (key_at format point) → new point ≡ old point
