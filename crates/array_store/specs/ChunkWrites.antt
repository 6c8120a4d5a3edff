-- What a write of a whole chunk leaves.
use Rattle.std.specs.Prelude.{◌≡◌, ◌<◌, ◌⊎◌, ℕ, Bool, true, false, IsTrue, List, [], Option, Some, None, length, map, slice_index_or}
use Rattle.std.specs.Prelude.{string_bytes}
use Rattle.parts_errors.specs.Words.{Bytes, Elements}
use Rattle.parts_errors.specs.declared.error.CodecError.{CodecError}
use Rattle.parts_errors.specs.declared.error.CodecError.TheVariants.{OutOfMemory, Fault}
use Rattle.parts_row_major.specs.Numbering.{count_of}
use Rattle.parts_row_major.specs.Subsets.{Subset, number_in}
use Rattle.parts_subsets.specs.Laws.{IsElsewhere}
use Rattle.codec_traits.specs.Meanings.{Meaning}
use Rattle.array_store.specs.Stores.{StoreState}
use Rattle.array_store.specs.declared.error.ArrayError.{ArrayError}
use Rattle.array_store.specs.declared.error.ArrayError.TheVariants.{Whole, Chunk}

-- an object is there, is an encoding of the elements, and stands for them
abbrev pub HoldsEncoding : Meaning → Elements → Option Bytes → Type 0
HoldsEncoding m elements None = ⊥
HoldsEncoding m elements (Some bytes) = m.written elements bytes × (m.cells bytes ≡ map Some elements)

-- the elements of a chunk after a write into a subset of it: the written ones in the subset, and elsewhere what the chunk had
pub record AreUpdated (chunk : List ℕ) (in_chunk : Subset) (update : ℕ → Bytes) (old : ℕ → Option Bytes) (new : Elements) : Type 0 where
  pub counted : length new ≡ count_of chunk
  pub inside : (r : ℕ) → r < count_of in_chunk.shape → slice_index_or new (number_in in_chunk chunk r) [] ≡ update r
  pub outside : (p : ℕ) → p < count_of chunk → IsElsewhere in_chunk chunk p → old p ≡ Some (slice_index_or new p [])

-- a chunk of such elements is encoded in an object, which is there
pub record IsUpdatedObject (m : Meaning) (chunk : List ℕ) (in_chunk : Subset) (update : ℕ → Bytes) (old : ℕ → Option Bytes)
    (object : Option Bytes) : Type 0 where
  pub elements : Elements
  pub updated : AreUpdated chunk in_chunk update old elements
  pub encoded : HoldsEncoding m elements object

-- what stands under a chunk's key once it is compacted: what the codec makes of the object, or what stood there
abbrev pub IsCompacted : Meaning → Bool → Option Bytes → Option Bytes → Type 0
IsCompacted m true (Some old) (Some new) = m.compacted old new
IsCompacted m true old new = ⊥
IsCompacted m false old new = new ≡ old

-- a refusal that is no fault leaves what stands under a key
abbrev pub IsKeptUnlessFault : StoreState → StoreState → Bytes → CodecError → Type 0
IsKeptUnlessFault old new key e = (e ≡ Fault) ⊎ (IsTrue old.transparent → new.contents key ≡ old.contents key)

-- a refusal of a write under a chunk's key: for memory before there is a key, or with the key
abbrev pub IsChunkRefusal : StoreState → StoreState → Bytes → ArrayError → Type 0
IsChunkRefusal old new key (Whole e) = (e ≡ OutOfMemory) × (IsTrue old.transparent → new.contents key ≡ old.contents key)
IsChunkRefusal old new key (Chunk named e) = (string_bytes named ≡ key) × IsKeptUnlessFault old new key e
