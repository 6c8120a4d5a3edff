-- What the writing calls of a handle do.
use Rattle.std.specs.Prelude.{◌≡◌, ◌≤◌, ◌<◌, ◌⊎◌, ⊤, ℕ, ◌+◌, ◌-◌, ◌^◌, IsTrue, Option, Some, None, List, [], ◌++◌, length, take, drop, fold, replicate}
use Rattle.std.specs.Borrow.{Bor}
use Rattle.parts_errors.specs.declared.error.CodecError.{CodecError}
use Rattle.parts_errors.specs.declared.error.CodecError.TheVariants.{OutOfMemory, TooLarge, Fault}
use Rattle.storage_handles.specs.Handles.{HandleState}

-- a writing call leaves whether the contents are told and what is supported; and the count of faults never falls
pub record IsWriting (old new : HandleState) : Type 0 where
  pub transparent_same : new.transparent ≡ old.transparent
  pub faults_kept : old.faults ≤ new.faults
  pub supports_same : new.supports ≡ old.supports

-- no object has no bytes
abbrev pub bytes_of : Option (List ℕ) → List ℕ
bytes_of None = []
bytes_of (Some bytes) = bytes

-- the bytes with a piece written over them at an offset; zeros fill a gap before it
abbrev pub written_at : ℕ → List ℕ → List ℕ → List ℕ
written_at offset piece bytes = take offset bytes ++ (replicate (offset - length bytes) 0 ++ (piece ++ drop (offset + length piece) bytes))

-- the bytes with all pieces written over them, each at its offset, in the order of the list
abbrev pub written_all : List (ℕ × Bor (List ℕ)) → List ℕ → List ℕ
written_all pieces bytes = fold (λ written piece. written_at piece.0 piece.1.now written) bytes pieces

-- how a write may be refused after which the object would have this size: for memory; as too large where it would reach 2^64 - 1
-- bytes; or as a fault, which was counted
abbrev pub RefusesWrite : ℕ → HandleState → HandleState → CodecError → Type 0
RefusesWrite size old new OutOfMemory = ⊤
RefusesWrite size old new TooLarge = IsTrue old.transparent → 2 ^ 64 ≤ size + 1
RefusesWrite size old new Fault = old.faults < new.faults
RefusesWrite size old new _ = ⊥

-- a refusal that is no fault leaves the contents
abbrev pub KeptUnlessFault : HandleState → HandleState → CodecError → Type 0
KeptUnlessFault old new e = (e ≡ Fault) ⊎ (new.contents ≡ old.contents)

-- a handle that fails once: its object, and how many calls come before the one that fails, or none once it has failed
pub record Faulting : Type 0 where
  pub object : Option (List ℕ)
  pub calls_left : Option ℕ

-- how often such a handle failed
abbrev pub fault_count : Option ℕ → ℕ
fault_count None = 1
fault_count (Some calls) = 0
