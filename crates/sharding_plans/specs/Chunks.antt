-- The chunks that an array is cut into (Zarr V3 core, "Regular grids"), and which of them a subset meets.
use Rattle.std.specs.Prelude.{◌≡◌, ◌<◌, ◌+◌, ◌-◌, ◌*◌, ◌/◌, ◌^◌, ℕ, List, None, length, map}
use Rattle.std.specs.List.{All}
use Rattle.parts_errors.specs.Words.{Refusals}
use Rattle.parts_errors.specs.Order.{◌or◌then◌, done}
use Rattle.parts_errors.specs.declared.error.CodecError.TheVariants.{IncompatibleDimensionality, TooLarge}
use Rattle.parts_row_major.specs.Numbering.{count_of, zip_with}
use Rattle.parts_row_major.specs.Subsets.{Subset}
use Rattle.parts_subsets.specs.Grid.{grid_of}
use Rattle.sharding_format.specs.declared.slot.Slot.TheVariants.{Absent}
use Rattle.sharding_gather.specs.SubchunkOverlaps.{IsSubchunkOverlap}
use Rattle.sharding_plans.specs.declared.read_plan.ReadPart.{ReadPart}
use Rattle.sharding_plans.specs.declared.read_plan.ReadPlan.{ReadPlan}
use Rattle.sharding_plans.specs.ReadPlans.{IsCutEvenly}

-- the elements along an axis, rounded up to whole chunks: to one where there is none
abbrev pub rounded_up : ℕ → ℕ → ℕ
rounded_up elements part = ((elements - 1) / part + 1) * part

-- the shape of an array, rounded up to whole chunks
abbrev pub whole_chunks : (shape chunk : List ℕ) → List ℕ
whole_chunks shape chunk = zip_with rounded_up shape chunk

-- an array has a grid of chunks, whose elements can be counted
pub record IsChunked (shape chunk : List ℕ) : Type 0 where
  pub same_axes : length shape ≡ length chunk
  pub evenly : IsCutEvenly (whole_chunks shape chunk) chunk

-- the tests of the axes of an array and of a chunk
abbrev pub AxesRefusals : (shape chunk : List ℕ) → Refusals → Refusals
AxesRefusals shape chunk later =
    length shape ≡ length chunk or IncompatibleDimensionality then
    All (λ axis. axis < 2 ^ 64) (whole_chunks shape chunk) or TooLarge then
    later

-- the tests of an array that is cut into chunks
abbrev pub ChunkRefusals : (shape chunk : List ℕ) → Refusals
ChunkRefusals shape chunk =
    AxesRefusals shape chunk (
    (count_of (whole_chunks shape chunk) < 2 ^ 64 × 16 * count_of (grid_of (whole_chunks shape chunk) chunk) < 2 ^ 64) or TooLarge then
    done)

-- a part of a subset is what it has in common with a chunk, of whose bytes nothing is said
pub record IsPartOfChunk (whole chunk : List ℕ) (subset : Subset) (part : ReadPart) : Type 0 where
  pub slot : part.slot ≡ Absent
  pub overlap : IsSubchunkOverlap whole chunk subset part.number part.overlap.in_subchunk part.overlap.in_subset

-- a plan has a part of each of the chunks with these numbers
pub record IsMeeting (whole chunk : List ℕ) (subset : Subset) (touched : List ℕ) (plan : ReadPlan) : Type 0 where
  pub numbered : map (λ part. part.number) plan.parts.items ≡ touched
  pub parts : All (IsPartOfChunk whole chunk subset) plan.parts.items
  pub none_bad : plan.bad ≡ None
