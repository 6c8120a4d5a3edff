-- What a handle is: an object's contents, bytes or none; whether the handle tells them; how often it failed; and what it can do in
-- part. And what its reading calls do.
use Rattle.std.specs.Prelude.{◌≡◌, ◌≤◌, ◌<◌, ⊤, ℕ, ◌+◌, ◌-◌, Bool, true, IsTrue, Option, Some, None, IfSome, Result, Ok, Err, IfOk, List, length, take, drop}
use Rattle.std.specs.Option.{option_map_or}
use Rattle.std.specs.Borrow.{follows_so, Fml, RattleType, MutBor}
use mathlib.Core.Option.{none}
use Rattle.parts_errors.specs.declared.error.CodecError.{CodecError}
use Rattle.parts_errors.specs.declared.error.CodecError.TheVariants.{OutOfMemory, OutOfBounds, Fault}
use Rattle.storage_handles.specs.declared.bytes.ByteRange.{ByteRange}
use Rattle.storage_handles.specs.declared.bytes.ByteRange.TheVariants.{FromStart, Suffix}

-- what a handle can do in part: read, and write
pub record Support : Type 0 where
  pub decode : Bool
  pub encode : Bool

-- what a handle is: whether it is transparent, which never changes; the object's bytes, or none where there is no object; how often
-- it failed, which never falls; how many bytes it holds in memory; and what can be done in part with the object, which never changes
pub record HandleState : Type 0 where
  pub transparent : Bool
  pub contents : Option (List ℕ)
  pub faults : ℕ
  pub cached : ℕ
  pub supports : Support

-- an object in memory, that is read and written
abbrev pub in_memory : Option (List ℕ) → HandleState
in_memory object = record {
  transparent = true;
  contents = object;
  faults = 0;
  cached = option_map_or length object 0;
  supports = record { decode = true; encode = true };
}

-- a handle that counts: its bytes, and how many of them it lent in all
pub record Counting : Type 0 where
  pub bytes : List ℕ
  pub bytes_read : ℕ

-- a reading call leaves the contents, whether they are told and what is supported; and the count of faults never falls
pub record IsRead (old new : HandleState) : Type 0 where
  pub transparent_same : new.transparent ≡ old.transparent
  pub contents_same : new.contents ≡ old.contents
  pub faults_kept : old.faults ≤ new.faults
  pub supports_same : new.supports ≡ old.supports

-- a call that may be refused only as a fault, which was counted
abbrev pub MayFault : HandleState → HandleState → CodecError → Type 0
MayFault old new e = (e ≡ Fault) × old.faults < new.faults

-- a refusal that is a fault was counted
abbrev pub IsCounted : HandleState → HandleState → CodecError → Type 0
IsCounted old new Fault = old.faults < new.faults
IsCounted old new _ = ⊤

-- the bytes of a range
abbrev pub range_part : ByteRange → List ℕ → List ℕ
range_part (FromStart offset None) bytes = drop offset bytes
range_part (FromStart offset (Some size)) bytes = take size (drop offset bytes)
range_part (Suffix size) bytes = drop (length bytes - size) bytes

-- the range lies in the bytes
abbrev pub RangeLiesIn : ByteRange → List ℕ → Type 0
RangeLiesIn (FromStart offset None) bytes = offset ≤ length bytes
RangeLiesIn (FromStart offset (Some size)) bytes = offset + size ≤ length bytes
RangeLiesIn (Suffix size) bytes = size ≤ length bytes

-- an answer has the length that was asked, where one was asked
abbrev pub HasRequestedLength : ByteRange → List ℕ → Type 0
HasRequestedLength (FromStart offset None) answer = ⊤
HasRequestedLength (FromStart offset (Some size)) answer = length answer ≡ size
HasRequestedLength (Suffix size) answer = length answer ≡ size

-- what a read of a range gives of the contents: nothing exactly where there is no object, and else the bytes of the range, which lies in it
abbrev pub IsPart : ByteRange → Option (List ℕ) → Option (List ℕ) → Type 0
IsPart range None answer = answer ≡ None
IsPart range (Some bytes) answer = RangeLiesIn range bytes × (answer ≡ Some (range_part range bytes))

-- what an accepted read of a range gives: bytes of the requested length, or nothing; of contents that are told, just the range's bytes
pub record WasRead (range : ByteRange) (state : HandleState) (answer : Option (List ℕ)) : Type 0 where
  pub requested : IfSome answer (HasRequestedLength range)
  pub told : IsTrue state.transparent → IsPart range state.contents answer

-- how a read of a range of such contents may be refused: for memory, as a fault, or out of bounds where the range doesn't lie in them
abbrev pub MayRefuseRange : ByteRange → Option (List ℕ) → CodecError → Type 0
MayRefuseRange range contents OutOfMemory = ⊤
MayRefuseRange range contents Fault = ⊤
MayRefuseRange range (Some bytes) OutOfBounds = ¬ (RangeLiesIn range bytes)
MayRefuseRange range contents _ = ⊥

-- how a read of a range may be refused: a fault was counted, and contents that are told allow the refusal
abbrev pub RefusesRead : ByteRange → HandleState → HandleState → CodecError → Type 0
RefusesRead range old new e = IsCounted old new e × (IsTrue old.transparent → MayRefuseRange range old.contents e)

-- what a handle is after a read of a range, which gave this refusal or none
abbrev pub HasRead : ByteRange → HandleState → HandleState → Option CodecError → Type 0
HasRead range old new e = IsRead old new × IfSome e (RefusesRead range old new)

-- P holds of the value behind the `&mut` s once the borrow of it by a result ends
abbrev pub Rests : (R : RattleType) → MutBor R.Denot → (R.Denot → Type 0) → Fml
Rests R s P = follows_so R R s.ghost_name none (λ _ _. ⊤) P

-- the refusal, if it is one
abbrev pub refusal : {A E : Type 0} → Result A E → Option E
refusal (Ok x) = None
refusal (Err e) = Some e

-- f of what is there
abbrev pub seen : {A B : Type 0} → (A → B) → Option A → Option B
seen f None = None
seen f (Some x) = Some (f x)

-- the second result has the refusal of the first, or its bytes
pub record Agrees {A B E : Type 0} (f : A → List ℕ) (g : B → List ℕ) (r : Result (Option A) E) (s : Result (Option B) E) : Type 0 where
  pub same_refusal : refusal s ≡ refusal r
  pub same_bytes : IfOk s (λ o. IfOk r (λ p. seen g o ≡ seen f p))

-- a refusal of a range that doesn't lie in the bytes
abbrev pub IsOutside : ByteRange → List ℕ → CodecError → Type 0
IsOutside range bytes e = (e ≡ OutOfBounds) × (¬ (RangeLiesIn range bytes))
