-- What the store of an array says of it.
use Rattle.std.specs.Prelude.{◌≡◌, ⊤, IsTrue, Option, Some, None, is_some}
use Rattle.parts_errors.specs.Words.{Bytes}
use Rattle.array_metadata.specs.AcceptedMetadata.{IsServedText, IsReadAs}
use Rattle.array_metadata.specs.declared.metadata.ArrayMetadata.{ArrayMetadata}
use Rattle.array_store.specs.ChunkWrites.{IsKeptUnlessFault}
use Rattle.array_store.specs.Stores.{StoreState}
use Rattle.array_store.specs.declared.opening.OpenError.{OpenError}
use Rattle.array_store.specs.declared.opening.OpenError.TheVariants.{Absent, Present, Store}

-- an object is there, whose text is the metadata of an array, and says this
abbrev pub IsMetadataIn : Option Bytes → ArrayMetadata → Type 0
IsMetadataIn None metadata = ⊥
IsMetadataIn (Some text) metadata = IsServedText text × IsReadAs text metadata

-- where a refusal to open an array says that metadata is absent, no object stands under its key
abbrev pub IsOpenRefusal : StoreState → Bytes → OpenError → Type 0
IsOpenRefusal store key Absent = IsTrue store.transparent → store.contents key ≡ None
IsOpenRefusal store key other = ⊤

-- a refusal to create an array leaves what stands under the key of its metadata, but for a fault; where it says that metadata is present,
-- an object stands there
abbrev pub IsCreateRefusal : StoreState → StoreState → Bytes → OpenError → Type 0
IsCreateRefusal old new key (Store e) = IsKeptUnlessFault old new key e
IsCreateRefusal old new key Present =
    IsTrue old.transparent → IsTrue (is_some (old.contents key)) × (new.contents key ≡ old.contents key)
IsCreateRefusal old new key other = IsTrue old.transparent → new.contents key ≡ old.contents key
