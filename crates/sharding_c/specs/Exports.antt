-- What the calls of the C library leave, and their tests in their order.
use Rattle.std.specs.Prelude.{◌≡◌, ◌⊎◌, ◌<◌, ◌≤◌, ◌*◌, ◌^◌, ◌++◌, ℕ, List, Option, length, drop}
use Rattle.parts_errors.specs.Words.{Bytes, Refusals}
use Rattle.parts_errors.specs.Order.{◌or◌then◌, done, RefusedBy}
use Rattle.parts_errors.specs.declared.error.CodecError.{CodecError}
use Rattle.parts_errors.specs.declared.error.CodecError.TheVariants.{OutOfMemory, TooLarge, IncompatibleDimensionality, InvalidNumberOfElements, ShardTooShort, Damaged}
use Rattle.parts_row_major.specs.Subsets.{IsSubset}
use Rattle.parts_row_major.specs.Subsets as subsets
use Rattle.sharding_plans.specs.declared.read_plan.ReadPlan.{ReadPlan}
use Rattle.sharding_plans.specs.ReadPlans.{HasEntries, IsReadPlan, IsWithin, WithinRefusals}
use Rattle.sharding_plans.specs.Puts.{PutRefusals, FillRefusals}
use Rattle.parts_subsets.specs.Touched.{AreTouched}
use Rattle.sharding_c.specs.declared.layout.Layout.{Layout}
use Rattle.sharding_c.specs.declared.layout.Subset.{Subset}
use Rattle.sharding_c.specs.declared.status.Refusal.{Refusal}
use Rattle.sharding_c.specs.declared.status.Refusal.TheVariants.{Codec, RoomTooSmall, BadFlags}
use Rattle.sharding_c.specs.Statuses.{◌or_refused◌then◌, ◌or_refused_by◌then◌, passed}
use Rattle.sharding_c.specs.Layouts.{IsLaidOut, IsIndex, LayoutRefusals, StartRefusals, subchunks_of, index_size, index_bytes}
use Rattle.sharding_c.specs.Rows.{rows_of, row_length, in_subchunk, in_answer}

-- the tests of a layout's flags, and those of the layout
abbrev pub LaidTests : Layout → (Refusal → Type 0) → Refusal → Type 0
LaidTests layout later =
    layout.index < 8 or_refused BadFlags then
    IsLaidOut layout or_refused_by LayoutRefusals layout done then
    later

-- the tests of the range of an index
abbrev pub IndexRangeTests : Layout → ℕ → Refusal → Type 0
IndexRangeTests layout len =
    LaidTests layout (
    index_size layout.index (subchunks_of layout) ≤ len or_refused Codec ShardTooShort then
    passed)

-- the tests of reading an index into a room, by how many numbers it holds
abbrev pub IndexReadTests : Layout → Bytes → ℕ → Refusal → Type 0
IndexReadTests layout index room =
    LaidTests layout (
    2 * subchunks_of layout ≤ room or_refused RoomTooSmall (2 * subchunks_of layout) then
    IsIndex layout.index (subchunks_of layout) index or_refused Codec Damaged then
    passed)

-- the tests of writing an index into a room, by how many bytes it holds
abbrev pub IndexWriteTests : Layout → List ℕ → ℕ → Refusal → Type 0
IndexWriteTests layout numbers room =
    LaidTests layout (
    length numbers ≡ 2 * subchunks_of layout or_refused Codec InvalidNumberOfElements then
    (λ refusal. (refusal ≡ Codec OutOfMemory) ⊎ (
    length (index_bytes layout.index numbers) ≤ room or_refused RoomTooSmall (length (index_bytes layout.index numbers)) then
    passed) refusal))

-- the subset that C tells
abbrev pub told_subset : Subset → subsets.Subset
told_subset subset = record { start = subset.start.now; shape = subset.shape.now }

-- the rows of a plan of a read stand in front of a room, and what was behind them there still does
pub record IsPlanWritten (layout : Layout) (len : ℕ) (numbers : List ℕ) (subset : Subset) (old new : List ℕ) (rows : ℕ) (bad : Option ℕ)
    : Type 0 where
  pub plan : ReadPlan
  pub planned : IsReadPlan layout.shape.now layout.subchunk_shape.now len numbers (told_subset subset) plan
  pub entries : HasEntries layout.shape.now layout.subchunk_shape.now numbers
  pub within : IsWithin layout.shape.now (told_subset subset)
  pub count : rows ≡ length plan.parts.items
  pub ends : bad ≡ plan.bad
  pub written : new ≡ rows_of plan.parts.items ++ drop (length (rows_of plan.parts.items)) old

-- the tests of a subset
abbrev pub SubsetTests : Layout → Subset → (Refusal → Type 0) → Refusal → Type 0
SubsetTests layout subset later =
    (IsSubset subset.start.now subset.shape.now × IsWithin layout.shape.now (told_subset subset)) or_refused_by
    StartRefusals subset.start.now subset.shape.now (WithinRefusals layout.shape.now (told_subset subset) done) then
    later

-- how many numbers the rows of some subchunks have, and that a number can say it
abbrev pub rows_length : Layout → ℕ → ℕ
rows_length layout rows = rows * row_length (length layout.shape.now)

abbrev pub CanBeCounted : Layout → ℕ → Type 0
CanBeCounted layout rows = row_length (length layout.shape.now) < 2 ^ 64 × rows_length layout rows < 2 ^ 64

-- the tests of a plan with this number of rows, by how many numbers the room holds
abbrev pub RowsTests : Layout → List ℕ → (rows room : ℕ) → Refusal → Type 0
RowsTests layout numbers rows room =
    CanBeCounted layout rows or_refused Codec TooLarge then
    rows_length layout rows ≤ room or_refused RoomTooSmall (rows_length layout rows) then
    HasEntries layout.shape.now layout.subchunk_shape.now numbers or_refused_by
    (HasEntries layout.shape.now layout.subchunk_shape.now numbers or InvalidNumberOfElements then done) then
    passed

-- the tests of a plan of a read
abbrev pub PlanTests : Layout → List ℕ → Subset → ℕ → Refusal → Type 0
PlanTests layout numbers subset room =
    LaidTests layout (
    SubsetTests layout subset (λ refusal.
    (touched : List ℕ) × AreTouched layout.shape.now layout.subchunk_shape.now (told_subset subset) touched
    × RowsTests layout numbers (length touched) room refusal))

-- the tests of a row: its axes, its parts, and those of a put
abbrev pub RowPutRefusals : Layout → List ℕ → ℕ → List ℕ → ℕ → Refusals
RowPutRefusals layout row decoded shape answer =
    length row ≡ row_length (length shape) or IncompatibleDimensionality then
    StartRefusals (in_subchunk (length shape) row).start (in_subchunk (length shape) row).shape (
    StartRefusals (in_answer (length shape) row).start (in_answer (length shape) row).shape (
    PutRefusals layout.element_size (in_subchunk (length shape) row) layout.subchunk_shape.now (in_answer (length shape) row) shape
    decoded answer))

-- the same of a part of an update that is put into a subchunk
abbrev pub RowUpdateRefusals : Layout → List ℕ → ℕ → List ℕ → ℕ → Refusals
RowUpdateRefusals layout row update shape decoded =
    length row ≡ row_length (length shape) or IncompatibleDimensionality then
    StartRefusals (in_answer (length shape) row).start (in_answer (length shape) row).shape (
    StartRefusals (in_subchunk (length shape) row).start (in_subchunk (length shape) row).shape (
    PutRefusals layout.element_size (in_answer (length shape) row) shape (in_subchunk (length shape) row) layout.subchunk_shape.now
    update decoded))

abbrev pub RowFillRefusals : List ℕ → ℕ → List ℕ → ℕ → Refusals
RowFillRefusals row element shape answer =
    length row ≡ row_length (length shape) or IncompatibleDimensionality then
    StartRefusals (in_answer (length shape) row).start (in_answer (length shape) row).shape (
    FillRefusals element (in_answer (length shape) row) shape answer)

abbrev pub UpdateTests : Layout → List ℕ → ℕ → List ℕ → ℕ → Refusal → Type 0
UpdateTests layout row update shape decoded refusal =
    (error : CodecError) × (refusal ≡ Codec error) × RefusedBy (RowUpdateRefusals layout row update shape decoded) error

-- the tests of a put and of filling a part, by the row of the part
abbrev pub PutTests : Layout → List ℕ → ℕ → List ℕ → ℕ → Refusal → Type 0
PutTests layout row decoded shape answer refusal =
    (error : CodecError) × (refusal ≡ Codec error) × RefusedBy (RowPutRefusals layout row decoded shape answer) error

abbrev pub FillTests : List ℕ → ℕ → List ℕ → ℕ → Refusal → Type 0
FillTests row element shape answer refusal =
    (error : CodecError) × (refusal ≡ Codec error) × RefusedBy (RowFillRefusals row element shape answer) error
