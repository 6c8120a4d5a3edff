-- A read of a subset of a shard as a plan: which stored subchunks it takes, and where the elements of each go.
use Rattle.std.specs.Prelude.{◌≡◌, ◌<◌, ◌^◌, ◌*◌, ℕ, List, Option, Some, None, map, take, length, slice_index}
use Rattle.std.specs.List.{All}
use Rattle.parts_errors.specs.Words.{Refusals}
use Rattle.parts_errors.specs.Order.{◌or◌then◌, done}
use Rattle.parts_errors.specs.declared.error.CodecError.TheVariants.{TooLarge, IncompatibleDimensionality, OutOfBounds, InvalidNumberOfElements, InvalidSubchunkShape}
use Rattle.parts_row_major.specs.Numbering.{count_of}
use Rattle.parts_row_major.specs.Subsets.{Subset, LiesIn}
use Rattle.parts_subsets.specs.Grid.{Divides, grid_of}
use Rattle.parts_subsets.specs.Touched.{AreTouched}
use Rattle.sharding_format.specs.Index.{slot_at}
use Rattle.sharding_format.specs.Compacting.{IsGood}
use Rattle.sharding_format.specs.declared.slot.Slot.TheVariants.{Bad}
use Rattle.sharding_gather.specs.SubchunkOverlaps.{IsSubchunkOverlap}
use Rattle.sharding_plans.specs.declared.read_plan.ReadPart.{ReadPart}
use Rattle.sharding_plans.specs.declared.read_plan.ReadPlan.{ReadPlan}

-- what a plan says of a subchunk that the subset touches: its slot, which is not bad, and where the two meet
pub record IsReadPart (shape sub : List ℕ) (len : ℕ) (numbers : List ℕ) (subset : Subset) (part : ReadPart) : Type 0 where
  pub slot : part.slot ≡ slot_at len numbers part.number
  pub good : IsGood part.slot
  pub overlap : IsSubchunkOverlap shape sub subset part.number part.overlap.in_subchunk part.overlap.in_subset

-- the first parts are of all touched subchunks, or of those before the first whose index entry is bad
abbrev pub EndsAt : ℕ → List ℕ → List ℕ → ℕ → Option ℕ → Type 0
EndsAt len numbers touched parts None = parts ≡ length touched
EndsAt len numbers touched parts (Some k) = (parts < length touched) × (slice_index touched parts ≡ k) × (slot_at len numbers k ≡ Bad)

-- a plan of a read, by a shard's length, its index's numbers and the subchunks that the subset touches: a part of each,
-- up to the first whose index entry is bad
pub record IsPlanOf (shape sub : List ℕ) (len : ℕ) (numbers : List ℕ) (subset : Subset) (touched : List ℕ) (plan : ReadPlan) : Type 0 where
  pub numbered : map (λ part. part.number) plan.parts.items ≡ take (length plan.parts.items) touched
  pub parts : All (IsReadPart shape sub len numbers subset) plan.parts.items
  pub ends : EndsAt len numbers touched (length plan.parts.items) plan.bad

-- the same of the subchunks that the subset touches, ascending
pub record IsReadPlan (shape sub : List ℕ) (len : ℕ) (numbers : List ℕ) (subset : Subset) (plan : ReadPlan) : Type 0 where
  pub touched : List ℕ
  pub are_touched : AreTouched shape sub subset touched
  pub planned : IsPlanOf shape sub len numbers subset touched plan

-- a shard can be cut into subchunks of a shape
pub record IsCutEvenly (shape sub : List ℕ) : Type 0 where
  pub same_axes : length shape ≡ length sub
  pub divides : Divides sub shape
  pub counted : count_of shape < 2 ^ 64
  pub index_fits : 16 * count_of (grid_of shape sub) < 2 ^ 64

-- the tests of the shapes of a shard and of its subchunks
abbrev pub CutRefusals : (shape sub : List ℕ) → Refusals
CutRefusals shape sub =
    length shape ≡ length sub or IncompatibleDimensionality then
    Divides sub shape or InvalidSubchunkShape then
    (count_of shape < 2 ^ 64 × 16 * count_of (grid_of shape sub) < 2 ^ 64) or TooLarge then
    done

-- the subset lies in the shard
pub record IsWithin (shape : List ℕ) (subset : Subset) : Type 0 where
  pub same_axes : length subset.start ≡ length shape
  pub inside : LiesIn subset shape

-- the index has an entry of each subchunk
abbrev pub HasEntries : (shape sub numbers : List ℕ) → Type 0
HasEntries shape sub numbers = length numbers ≡ 2 * count_of (grid_of shape sub)

-- the tests of a subset
abbrev pub WithinRefusals : List ℕ → Subset → Refusals → Refusals
WithinRefusals shape subset later =
    length subset.start ≡ length shape or IncompatibleDimensionality then
    LiesIn subset shape or OutOfBounds then
    later

-- the tests of a plan
abbrev pub PlanRefusals : (shape sub numbers : List ℕ) → Subset → Refusals
PlanRefusals shape sub numbers subset =
    WithinRefusals shape subset (
    HasEntries shape sub numbers or InvalidNumberOfElements then
    done)
