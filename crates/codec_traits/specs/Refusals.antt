-- Why a codec may refuse.
use Rattle.std.specs.Prelude.{◌≡◌, ◌≤◌, ◌<◌, ◌^◌, ◌⊎◌, ⊤, ℕ, Option, None, List, length, slice_index, slice_index_or}
use Rattle.std.specs.List.{sum_by}
use Rattle.parts_errors.specs.declared.error.CodecError.{CodecError}
use Rattle.parts_errors.specs.declared.error.CodecError.TheVariants.{OutOfMemory, TooLarge, CannotEncode, Fault}
use Rattle.codec_traits.specs.Meanings.{Meaning}
use Rattle.codec_traits.specs.Cells.{all_there, cell_length}

-- the cells at some places, no two of them one, have lengths that add up past what memory can address
pub record AreTooLong (cells : List (Option (List ℕ))) : Type 0 where
  pub positions : List ℕ
  pub below : (i : ℕ) → i < length positions → slice_index positions i < length cells
  pub apart : (i j : ℕ) → i < j → j < length positions → ¬ (slice_index positions i ≡ slice_index positions j)
  pub long : 2 ^ 64 ≤ sum_by (λ position. cell_length (slice_index_or cells position None)) positions

-- some cell isn't there
abbrev pub AreDamaged : List (Option (List ℕ)) → Type 0
AreDamaged cells = all_there cells ≡ None

-- a codec refuses by its own tests, and only what it doesn't serve
abbrev pub RefusesUnserved : Meaning → CodecError → Type 0
RefusesUnserved codec e = (¬ codec.serves) × codec.check_refusals e

-- the refusal isn't a fault
abbrev pub IsNoFault : CodecError → Type 0
IsNoFault Fault = ⊥
IsNoFault _ = ⊤

-- how `encode` may refuse an array that is served
abbrev pub MayRefuseEncode : Meaning → List (List ℕ) → CodecError → Type 0
MayRefuseEncode codec elements OutOfMemory = ⊤
MayRefuseEncode codec elements CannotEncode = ¬ (codec.encodable elements)
MayRefuseEncode codec elements TooLarge = ¬ (codec.fits elements)
MayRefuseEncode codec elements _ = ⊥

-- how `decode` may refuse bytes that stand for these cells
abbrev pub MayRefuseDecode : List (Option (List ℕ)) → CodecError → Type 0
MayRefuseDecode cells OutOfMemory = ⊤
MayRefuseDecode cells TooLarge = AreTooLong cells ⊎ AreDamaged cells
MayRefuseDecode cells Fault = ⊥
MayRefuseDecode cells _ = AreDamaged cells

-- how `compact` may refuse bytes that stand for these cells
abbrev pub MayRefuseCompact : List (Option (List ℕ)) → CodecError → Type 0
MayRefuseCompact cells OutOfMemory = ⊤
MayRefuseCompact cells TooLarge = ⊤
MayRefuseCompact cells CannotEncode = ⊤
MayRefuseCompact cells Fault = ⊥
MayRefuseCompact cells _ = AreDamaged cells
