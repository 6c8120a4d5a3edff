-- How a chunk that is to be stored is refused (Zarr V3 core, "Regular grids" and "Chunk keys").
use Rattle.std.specs.Prelude.{◌≡◌, ◌<◌, ◌*◌, ◌^◌, ◌⊎◌, ℕ, List, length}
use Rattle.parts_errors.specs.Words.{Bytes}
use Rattle.parts_errors.specs.Order.{◌or_as◌then◌, RefusedBy}
use Rattle.parts_errors.specs.declared.error.CodecError.{CodecError}
use Rattle.parts_row_major.specs.Numbering.{count_of}
use Rattle.parts_row_major.specs.Subsets.{LiesIn}
use Rattle.parts_arrays.specs.Arrays.{Array}
use Rattle.parts_arrays.specs.declared.data_type.DataTypeSize.TheVariants.{Fixed}
use Rattle.codec_traits.specs.Meanings.{Meaning}
use Rattle.codec_traits.specs.Refusals.{RefusesUnserved}
use Rattle.sharding_format.specs.Encoding.{IsAllFill}
use Rattle.array_grid.specs.Cells.{FillRefusals, PutRefusals}
use Rattle.array_cli.specs.Padded.{at_start, ArePadded}

-- there is room for a chunk of fill values: the fill value has a byte, and the chunk's elements and their bytes can be counted
abbrev pub HasRoom : List ℕ → Bytes → Type 0
HasRoom chunk fill = (0 < length fill) × (count_of chunk < 2 ^ 64) × (count_of chunk * length fill < 2 ^ 64)

-- elements that have a shape are as many, each of the size of the fill value, and a subset of the shape lies at the start of a chunk
abbrev pub FitAtStart : Bytes → List ℕ → List ℕ → Array → Type 0
FitAtStart fill shape chunk elements =
    LiesIn (at_start shape) chunk × (elements.kind ≡ Fixed (length fill)) × (count_of shape ≡ length elements.elements)

-- elements that are to stand at the start of a chunk are refused as the room for the chunk is, or then as the elements are
abbrev pub IsPaddedRefusal : Bytes → List ℕ → List ℕ → Array → CodecError → Type 0
IsPaddedRefusal fill shape chunk elements e =
    RefusedBy (FillRefusals chunk fill) e ⊎ (HasRoom chunk fill × PutRefusals (length fill) chunk (at_start shape) elements e)

-- a chunk is refused as its codec refuses its elements, of which not each is the fill value
abbrev pub IsEncodeRefusal : Meaning → Bytes → Array → CodecError → Type 0
IsEncodeRefusal codec fill elements e =
    (¬ (IsAllFill fill elements.elements))
    × RefusedBy (codec.serves or_as RefusesUnserved codec then codec.encode_refusals elements) e

-- elements that have a shape are refused with the fill values that the chunk has behind them
pub record RefusesPadded
    (codec : Meaning) (fill : Bytes) (shape chunk : List ℕ) (elements : Array) (e : CodecError) : Type 0 where
  pub padded : Array
  pub are_padded : ArePadded fill shape chunk elements padded
  pub refused : IsEncodeRefusal codec fill padded e

-- a chunk at whose start elements stand is refused as it is encoded, or, where it has more elements, before as these are put
abbrev pub IsChunkRefusal : Meaning → Bytes → List ℕ → List ℕ → Array → CodecError → Type 0
IsChunkRefusal codec fill shape chunk elements e =
    ((shape ≡ chunk) × IsEncodeRefusal codec fill elements e)
    ⊎ (IsPaddedRefusal fill shape chunk elements e ⊎ RefusesPadded codec fill shape chunk elements e)
