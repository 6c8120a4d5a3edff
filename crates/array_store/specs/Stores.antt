-- What a store is, and what its calls do.
use Rattle.std.specs.Prelude.{◌≡◌, ◌≢◌, ⊤, Bool, cond, IsTrue, List, [], ◌∷◌, Option, Some, None}
use Rattle.std.specs.Str.{bytes_eq}
use Rattle.parts_errors.specs.Words.{Bytes}
use Rattle.parts_errors.specs.declared.error.CodecError.{CodecError}
use Rattle.parts_errors.specs.declared.error.CodecError.TheVariants.{OutOfMemory, TooLarge, Fault}
use Rattle.storage_handles.specs.Handles.{HandleState}

-- what a store is: whether it is transparent, so that it tells what it holds, which never changes; and what stands under each key:
-- the bytes of an object, or none
pub record StoreState : Type 0 where
  pub transparent : Bool
  pub contents : Bytes → Option Bytes

-- a handle is over what stands under a key
pub record IsOpened (store : StoreState) (key : Bytes) (handle : HandleState) : Type 0 where
  pub transparent_same : handle.transparent ≡ store.transparent
  pub contents_same : IsTrue store.transparent → handle.contents ≡ store.contents key

-- a store is as transparent as it was, and holds what it held under each key but one
pub record AreKept (old new : StoreState) (key : Bytes) : Type 0 where
  pub transparent_same : new.transparent ≡ old.transparent
  pub others : IsTrue old.transparent → (other : Bytes) → other ≢ key → new.contents other ≡ old.contents other

-- how a change under a key may be refused: for memory and as too large it leaves what stands there, and as a fault it may not
abbrev pub IsPutRefusal : StoreState → StoreState → Bytes → CodecError → Type 0
IsPutRefusal old new key OutOfMemory = IsTrue old.transparent → new.contents key ≡ old.contents key
IsPutRefusal old new key TooLarge = IsTrue old.transparent → new.contents key ≡ old.contents key
IsPutRefusal old new key Fault = ⊤
IsPutRefusal old new key _ = ⊥

-- objects in memory, each with its key
abbrev pub ObjectList : Type 0
ObjectList = List (Bytes × Bytes)

-- what stands under a key among them: the first that has it
abbrev pub stored_at : ObjectList → Bytes → Option Bytes
stored_at [] key = None
stored_at (object ∷ rest) key = cond (bytes_eq object.0 key) (Some object.1) (stored_at rest key)
