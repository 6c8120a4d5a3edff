-- How a chunk is stored (Zarr V3 core, "Regular grids" and "Chunk keys").
use Rattle.std.specs.Prelude.{◌≡◌, ◌⊎◌, ℕ, List, Option, MatchOption}
use Rattle.parts_errors.specs.Words.{Bytes}
use Rattle.parts_arrays.specs.Arrays.{Array}
use Rattle.sharding_format.specs.Encoding.{IsAllFill}
use Rattle.array_cli.specs.Padded.{ArePadded}

-- elements are stored as one of their encodings, and as no object exactly where each of them is the fill value
abbrev pub IsStored : (List Bytes → Bytes → Type 0) → Bytes → List Bytes → Option Bytes → Type 0
IsStored encodings fill elements object =
    MatchOption object (IsAllFill fill elements) (λ bytes. (¬ (IsAllFill fill elements)) × encodings elements bytes)

-- elements that have a shape are stored with the fill values that a chunk has behind them
pub record IsStoredPadded
    (encodings : List Bytes → Bytes → Type 0) (fill : Bytes) (shape chunk : List ℕ)
    (elements : Array) (object : Option Bytes) : Type 0 where
  pub padded : Array
  pub are_padded : ArePadded fill shape chunk elements padded
  pub stored : IsStored encodings fill padded.elements object

-- a chunk at whose start elements stand that have a shape
abbrev pub IsStoredChunk : (List Bytes → Bytes → Type 0) → Bytes → List ℕ → List ℕ → Array → Option Bytes → Type 0
IsStoredChunk encodings fill shape chunk elements object =
    ((shape ≡ chunk) × IsStored encodings fill elements.elements object) ⊎ IsStoredPadded encodings fill shape chunk elements object
