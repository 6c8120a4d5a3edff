-- Why metadata is refused: the number and name of each refusal, and the text that it carries.
use Rattle.std.specs.Prelude.{◌≡◌, ◌⊎◌, ℕ, Option, Some, None, Result, Ok, Err, codes, string_bytes}
use Rattle.parts_errors.specs.Words.{Bytes}
use Rattle.codec_metadata.specs.declared.error.PluginCreateError.{PluginCreateError}
use Rattle.codec_metadata.specs.declared.error.PluginCreateError.TheVariants.{OutOfMemory, UnsupportedCodec, MissingField, BadField, UnsupportedChain}

-- the number of a refusal: its place among them, from 1 on
abbrev pub refusal_number : PluginCreateError → ℕ
refusal_number OutOfMemory = 1
refusal_number (UnsupportedCodec _) = 2
refusal_number (MissingField _) = 3
refusal_number (BadField _) = 4
refusal_number UnsupportedChain = 5

-- the name of a refusal
abbrev pub refusal_name : PluginCreateError → Bytes
refusal_name OutOfMemory = codes "OutOfMemory"
refusal_name (UnsupportedCodec _) = codes "UnsupportedCodec"
refusal_name (MissingField _) = codes "MissingField"
refusal_name (BadField _) = codes "BadField"
refusal_name UnsupportedChain = codes "UnsupportedChain"

-- a refusal, with its text as bytes
pub data Refusal : Type 0 where
  out_of_memory : Refusal
  unsupported_codec : Bytes → Refusal
  missing_field : Bytes → Refusal
  bad_field : Bytes → Refusal
  unsupported_chain : Refusal

abbrev pub refusal_of : PluginCreateError → Refusal
refusal_of OutOfMemory = out_of_memory
refusal_of (UnsupportedCodec name) = unsupported_codec (string_bytes name)
refusal_of (MissingField key) = missing_field (string_bytes key)
refusal_of (BadField key) = bad_field (string_bytes key)
refusal_of UnsupportedChain = unsupported_chain

-- what is read, or why it is refused
abbrev pub Reading : Type 0 → Type 0
Reading A = Result A Refusal

-- a call that reads so is refused for memory, or as the reading is
abbrev pub RefusedAs : {A : Type 0} → Reading A → PluginCreateError → Type 0
RefusedAs reading e = (e ≡ OutOfMemory) ⊎ (reading ≡ Err (refusal_of e))

-- what an optional value gives, and the refusal where there is none
abbrev pub or_refused : {A B : Type 0} → Option A → Refusal → (A → Reading B) → Reading B
or_refused None refusal later = Err refusal
or_refused (Some x) refusal later = later x

-- what is read next, of what was read
abbrev pub and_then : {A B : Type 0} → Reading A → (A → Reading B) → Reading B
and_then (Ok x) later = later x
and_then (Err refusal) later = Err refusal
