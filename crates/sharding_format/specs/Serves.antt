-- Which arrays the sharding codec serves, what it can encode, and how long its encodings are.
use Rattle.std.specs.Prelude.{◌≡◌, ◌<◌, ◌^◌, ◌⊎◌, ℕ, ◌+◌, ◌*◌, List, Bool, true, false, Option, Some, None, IsSome, length, map, nat_lt, if◌then◌else◌}
use Rattle.std.specs.List.{All, sum_by, range_with_len}
use Rattle.parts_errors.specs.Words.{Refusals, Written}
use Rattle.parts_errors.specs.Order.{◌or◌then◌, ◌or_as◌then◌, done}
use Rattle.parts_row_major.specs.Numbering.{count_of}
use Rattle.parts_subsets.specs.Grid.{Divides, grid_of, subchunk}
use Rattle.parts_arrays.specs.ArraySpec.{ArraySpec, array_spec}
use Rattle.parts_arrays.specs.Types.{size_of, HasElements, FitsKind, byte_size}
use Rattle.parts_errors.specs.declared.error.CodecError.{CodecError}
use Rattle.parts_errors.specs.declared.error.CodecError.TheVariants.{UnsupportedDataType, BadFillValue, IncompatibleDimensionality, InvalidSubchunkShape, TooLarge, VariableIndexSize}
use Rattle.codec_traits.specs.Refusals.{RefusesUnserved}
use Rattle.codec_traits.specs.declared.representation.BytesRepresentation.{BytesRepresentation}
use Rattle.codec_traits.specs.declared.representation.BytesRepresentation.TheVariants.{FixedSize, BoundedSize, UnboundedSize}
use Rattle.codec_traits.specs.Meanings.{Meaning}
use Rattle.sharding_format.specs.Index.{element_of_number}
use Rattle.sharding_format.specs.Cells.{Layout}
use Rattle.sharding_format.specs.Encoding.{IsAllFill, IsStored}
use Rattle.sharding_format.specs.declared.location.ShardingIndexLocation.{ShardingIndexLocation}
use Rattle.sharding_format.specs.declared.order.SubchunkWriteOrder.{SubchunkWriteOrder}

-- what the inner codec is asked to serve
abbrev pub subchunk_spec : List ℕ → ArraySpec → ArraySpec
subchunk_spec sub g = array_spec sub g.data_type g.fill

-- the size of the index, where it is fixed
abbrev pub fixed_size : Option BytesRepresentation → ℕ
fixed_size (Some (FixedSize n)) = n
fixed_size (Some (BoundedSize n)) = 0
fixed_size (Some UnboundedSize) = 0
fixed_size None = 0

-- the layout of a shard of this shape and fill value
abbrev pub layout_of : List ℕ → ShardingIndexLocation → SubchunkWriteOrder → ℕ → ArraySpec → Layout
layout_of sub location order index_size g =
    record { shape = g.shape; sub = sub; fill = g.fill; location = location; index_size = index_size; order = order }

abbrev pub layout : List ℕ → ShardingIndexLocation → SubchunkWriteOrder → Option BytesRepresentation → ArraySpec → Layout
layout sub location order representation g = layout_of sub location order (fixed_size representation) g

-- the index codec serves the index, and its encodings have one size
pub record IndexServes (index : Meaning) : Type 0 where
  pub served : index.serves
  pub fixed : index.representation ≡ Some (FixedSize (fixed_size index.representation))

-- the sharding codec serves these arrays
pub record ShardServes (inner index : Meaning) (sub : List ℕ) (g : ArraySpec) : Type 0 where
  pub supported : HasElements g.data_type
  pub fill_fits : FitsKind (size_of g.data_type) g.fill
  pub same_axes : length g.shape ≡ length sub
  pub divides : Divides sub g.shape
  pub cells_fit : count_of g.shape < 2 ^ 64
  pub bytes_fit : count_of g.shape * byte_size (size_of g.data_type) < 2 ^ 64
  pub index_fits : 16 * count_of (grid_of g.shape sub) < 2 ^ 64
  pub index_served : IndexServes index
  pub inner_served : inner.serves

-- the tests of the index codec: its own `check`, and that its encodings have one size
abbrev pub IndexCodecRefusals : Meaning → Refusals → CodecError → Type 0
IndexCodecRefusals index later =
    index.serves or_as RefusesUnserved index then
    IsSome index.representation or TooLarge then
    index.representation ≡ Some (FixedSize (fixed_size index.representation)) or VariableIndexSize then
    later

-- the tests of a shard's shape, for elements of so many bytes, and of the index codec
abbrev pub PlanRefusals : (index : Meaning) → (shape sub : List ℕ) → ℕ → Refusals → CodecError → Type 0
PlanRefusals index shape sub element_size later =
    length shape ≡ length sub or IncompatibleDimensionality then
    Divides sub shape or InvalidSubchunkShape then
    (count_of shape < 2 ^ 64 × count_of shape * element_size < 2 ^ 64 × 16 * count_of (grid_of shape sub) < 2 ^ 64) or TooLarge then
    IndexCodecRefusals index later

-- what they find
pub record HasPlan (index : Meaning) (shape sub : List ℕ) (element_size : ℕ) : Type 0 where
  pub same_axes : length shape ≡ length sub
  pub divides : Divides sub shape
  pub fits : count_of shape < 2 ^ 64 × count_of shape * element_size < 2 ^ 64 × 16 * count_of (grid_of shape sub) < 2 ^ 64
  pub index_served : IndexServes index

-- the tests of `check`, in their order
abbrev pub CheckRefusals : (inner index : Meaning) → List ℕ → ArraySpec → CodecError → Type 0
CheckRefusals inner index sub g =
    HasElements g.data_type or UnsupportedDataType then
    FitsKind (size_of g.data_type) g.fill or BadFillValue then
    PlanRefusals index g.shape sub (byte_size (size_of g.data_type)) (
    inner.serves or_as RefusesUnserved inner then
    done)

-- the sharding codec can encode an array whose stored subchunks the inner codec can encode, where the index codec can encode
-- every index
pub record ShardEncodable (inner outer : Meaning) (l : Layout) (a : List (List ℕ)) : Type 0 where
  pub subchunks : (k : ℕ) → k < count_of (grid_of l.shape l.sub) → ¬ (IsAllFill l.fill (subchunk l.shape l.sub a k))
      → inner.encodable (subchunk l.shape l.sub a k)
  pub index : (numbers : List ℕ) → length numbers ≡ 2 * count_of (grid_of l.shape l.sub) → All (λ n. n < 2 ^ 64) numbers
      → outer.encodable (map element_of_number numbers)

-- what is stored of a subchunk: nothing where it is all fill, and else an encoding
abbrev pub IsStoredPart : Written → List ℕ → List (List ℕ) → List ℕ → Type 0
IsStoredPart inner_written fill elements part =
    IsStored inner_written fill elements false part ⊎ IsStored inner_written fill elements true part

-- the index's size and the lengths of all parts
abbrev pub total_size : Layout → (ℕ → List ℕ) → ℕ
total_size l parts = l.index_size + sum_by (λ k. length (parts k)) (range_with_len 0 (count_of (grid_of l.shape l.sub)))

-- an array fits where its stored subchunks and every index fit, and the index with any encodings of those subchunks stays
-- below what memory can address
pub record ShardFits (inner outer : Meaning) (l : Layout) (a : List (List ℕ)) : Type 0 where
  pub subchunks : (k : ℕ) → k < count_of (grid_of l.shape l.sub) → ¬ (IsAllFill l.fill (subchunk l.shape l.sub a k))
      → inner.fits (subchunk l.shape l.sub a k)
  pub index : (numbers : List ℕ) → length numbers ≡ 2 * count_of (grid_of l.shape l.sub) → All (λ n. n < 2 ^ 64) numbers
      → outer.fits (map element_of_number numbers)
  pub total : (parts : ℕ → List ℕ) → ((k : ℕ) → k < count_of (grid_of l.shape l.sub)
      → IsStoredPart inner.written l.fill (subchunk l.shape l.sub a k) (parts k))
      → total_size l parts + 1 < 2 ^ 64

-- a bound, where a 64-bit number can say it
abbrev pub bound_of : ℕ → Option BytesRepresentation
bound_of n = if nat_lt n (2 ^ 64) then Some (BoundedSize n) else None

-- how long encodings are, of so many subchunks and an index of this size
abbrev pub shard_representation : Option BytesRepresentation → ℕ → ℕ → Option BytesRepresentation
shard_representation None subchunks index_size = None
shard_representation (Some (FixedSize size)) subchunks index_size = bound_of (subchunks * size + index_size)
shard_representation (Some (BoundedSize size)) subchunks index_size = bound_of (subchunks * size + index_size)
shard_representation (Some UnboundedSize) subchunks index_size = Some UnboundedSize
