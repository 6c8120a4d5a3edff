-- What is left where bytes were to take an object's place.
use Rattle.std.specs.Prelude.{◌≡◌, ◌≤◌, ◌<◌, ◌^◌, ◌+◌, ◌⊎◌, true, length, Option, Some}
use Rattle.parts_errors.specs.Words.{Bytes}
use Rattle.parts_errors.specs.declared.error.CodecError.TheVariants.{OutOfMemory, TooLarge}
use Rattle.session_runs.specs.declared.command.Reply.{Reply}
use Rattle.session_runs.specs.declared.command.Reply.TheVariants.{Compacted, Refused}

-- by the reply: the bytes, or the old object, where there was no memory, or where
-- they reach 2^64 - 1
abbrev pub IsReplaced : Bytes → (old new : Option Bytes) → Reply → Type 0
IsReplaced bytes old new (Compacted true) = (new ≡ Some bytes) × (length bytes + 1 < 2 ^ 64)
IsReplaced bytes old new (Refused e) = (new ≡ old) × ((e ≡ OutOfMemory) ⊎ ((e ≡ TooLarge) × 2 ^ 64 ≤ length bytes + 1))
IsReplaced bytes old new _ = ⊥
