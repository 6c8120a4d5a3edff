-- The rows of the chunks of an array that a subset meets.
use Rattle.std.specs.Prelude.{◌≡◌, ◌<◌, ◌≤◌, ◌*◌, ◌^◌, ◌++◌, ℕ, List, length, drop}
use Rattle.parts_errors.specs.Words.{Refusals}
use Rattle.parts_errors.specs.Order.{◌or◌then◌, done}
use Rattle.parts_errors.specs.declared.error.CodecError.TheVariants.{TooLarge, IncompatibleDimensionality, InvalidSubchunkShape}
use Rattle.parts_row_major.specs.Numbering.{AllPositive}
use Rattle.parts_row_major.specs.Subsets.{IsSubset}
use Rattle.parts_subsets.specs.Touched.{AreTouched}
use Rattle.sharding_plans.specs.declared.read_plan.ReadPlan.{ReadPlan}
use Rattle.sharding_plans.specs.Chunks.{ChunkRefusals, IsChunked, IsMeeting, whole_chunks}
use Rattle.sharding_plans.specs.ReadPlans.{IsWithin, WithinRefusals}
use Rattle.sharding_c.specs.declared.layout.Subset.{Subset}
use Rattle.sharding_c.specs.declared.status.Refusal.{Refusal}
use Rattle.sharding_c.specs.declared.status.Refusal.TheVariants.{Codec, RoomTooSmall}
use Rattle.sharding_c.specs.Statuses.{◌or_refused◌then◌, ◌or_refused_by◌then◌, passed}
use Rattle.sharding_c.specs.Layouts.{StartRefusals}
use Rattle.sharding_c.specs.Rows.{rows_of, row_length}
use Rattle.sharding_c.specs.Exports.{told_subset}

-- the rows of the chunks that a subset meets stand in front of a room, and what was behind them there still does
pub record IsMeetingWritten (shape chunk : List ℕ) (subset : Subset) (old new : List ℕ) (rows : ℕ) : Type 0 where
  pub touched : List ℕ
  pub are_touched : AreTouched (whole_chunks shape chunk) chunk (told_subset subset) touched
  pub plan : ReadPlan
  pub meeting : IsMeeting (whole_chunks shape chunk) chunk (told_subset subset) touched plan
  pub within : IsWithin shape (told_subset subset)
  pub count : rows ≡ length touched
  pub written : new ≡ rows_of plan.parts.items ++ drop (length (rows_of plan.parts.items)) old

-- the tests of an array and its chunks
abbrev pub ArrayRefusals : (shape chunk : List ℕ) → Refusals
ArrayRefusals shape chunk =
    length shape ≡ length chunk or IncompatibleDimensionality then
    AllPositive chunk or InvalidSubchunkShape then
    ChunkRefusals shape chunk

-- the tests of the room for rows of this number of axes
abbrev pub RoomTests : (axes rows room : ℕ) → Refusal → Type 0
RoomTests axes rows room =
    (row_length axes < 2 ^ 64 × rows * row_length axes < 2 ^ 64) or_refused Codec TooLarge then
    rows * row_length axes ≤ room or_refused RoomTooSmall (rows * row_length axes) then
    passed

-- the tests of a subset of an array, by how many numbers the room holds
abbrev pub MeetTests : (shape chunk : List ℕ) → Subset → ℕ → Refusal → Type 0
MeetTests shape chunk subset room =
    IsChunked shape chunk or_refused_by ArrayRefusals shape chunk then
    (IsSubset subset.start.now subset.shape.now × IsWithin shape (told_subset subset)) or_refused_by
    StartRefusals subset.start.now subset.shape.now (WithinRefusals shape (told_subset subset) done) then
    (λ refusal. (touched : List ℕ) × AreTouched (whole_chunks shape chunk) chunk (told_subset subset) touched
    × RoomTests (length shape) (length touched) room refusal)
