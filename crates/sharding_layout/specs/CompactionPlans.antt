-- The plan of a compaction: what it makes of an object, and of which objects a plan is one that looks at their index alone.
use Rattle.std.specs.Prelude.{◌≡◌, ◌<◌, ◌≤◌, ◌^◌, ℕ, ◌+◌, ◌*◌, ◌/◌, List, Option, Some, None, length}
use Rattle.parts_errors.specs.Order.{◌or◌then◌}
use Rattle.parts_errors.specs.Words.{CellsOf}
use Rattle.parts_errors.specs.declared.error.CodecError.{CodecError}
use Rattle.parts_errors.specs.declared.error.CodecError.TheVariants.{ShardTooShort}
use Rattle.parts_row_major.specs.Numbering.{count_of}
use Rattle.parts_subsets.specs.Grid.{grid_of}
use Rattle.storage_handles.specs.declared.bytes.Interval.{Interval}
use Rattle.codec_traits.specs.Meanings.{Meaning}
use Rattle.sharding_format.specs.Cells.{Layout}
use Rattle.sharding_format.specs.Index.{slot_at, index_part, numbers_in_index}
use Rattle.sharding_format.specs.Laying.{whole_shard}
use Rattle.sharding_format.specs.Serves.{PlanRefusals}
use Rattle.sharding_format.specs.DecodeRefusals.{IndexRefusals, slot_by}
use Rattle.sharding_format.specs.Compacting.{IsGood, compact_size, PresentRefusals}
use Rattle.sharding_format.specs.declared.location.ShardingIndexLocation.{ShardingIndexLocation}
use Rattle.sharding_format.specs.declared.slot.Slot.{Slot}
use Rattle.sharding_format.specs.declared.slot.Slot.TheVariants.{Absent, InRange, Bad}
use Rattle.sharding_layout.specs.Repacking.{slices_of}
use Rattle.sharding_layout.specs.Layouts.{OfEachLayout}
use Rattle.sharding_layout.specs.declared.plan.CompactionPlan.{CompactionPlan}

-- the slice that a slot names
abbrev pub interval_of : Slot → Option Interval
interval_of Absent = None
interval_of (InRange offset size) = Some (record { offset = offset; size = size })
interval_of Bad = None

-- the object that a plan makes of an old one: the new index before or behind the old slices, which follow one another
abbrev pub executed : CompactionPlan → List ℕ → List ℕ
executed plan old =
    let slot = slot_at plan.old_index.len plan.old_index.numbers.items in
    whole_shard plan.location plan.new_index.items (slices_of old slot (length plan.old_index.numbers.items / 2))

-- a plan is one for an object of this length, by a layout: no entry of the index is bad
pub record IsPlanFor (l : Layout) (len : ℕ) (plan : CompactionPlan) : Type 0 where
  pub old_len : plan.old_index.len ≡ len
  pub subchunks : length plan.old_index.numbers.items ≡ 2 * count_of (grid_of l.shape l.sub)
  pub location : plan.location ≡ l.location
  pub index : length plan.new_index.items ≡ l.index_size
  pub good : (k : ℕ) → k < count_of (grid_of l.shape l.sub) → IsGood (slot_at len plan.old_index.numbers.items k)

-- the tests of a plan for a shard of this length, by bytes that begin or end with its index, in their order: those of `compact`
abbrev pub PlannedRefusals : (index : Meaning) → Layout → List ℕ → ℕ → CodecError → Type 0
PlannedRefusals index l index_bytes len =
    PlanRefusals index l.shape l.sub 0 (
    l.index_size ≤ len or ShardTooShort then
    IndexRefusals index.decode_refusals index.cells l.location l.index_size index_bytes (
    PresentRefusals index l len (slot_by len (numbers_in_index index.cells l.location l.index_size index_bytes))))

-- the same tests, but that of the index's bytes, of which these are the numbers
abbrev pub NumberedRefusals : (index : Meaning) → Layout → List ℕ → ℕ → CodecError → Type 0
NumberedRefusals index l numbers len =
    PlanRefusals index l.shape l.sub 0 (
    l.index_size ≤ len or ShardTooShort then
    PresentRefusals index l len (slot_at len numbers))

-- what they find of the shard and of the numbers of its index
pub record HasGoodEntries (l : Layout) (numbers : List ℕ) (len : ℕ) : Type 0 where
  pub long : l.index_size ≤ len
  pub good : (k : ℕ) → k < count_of (grid_of l.shape l.sub) → IsGood (slot_at len numbers k)
  pub small : compact_size l (slot_at len numbers) + 1 < 2 ^ 64

-- and of the bytes: these are long enough, and their index has such numbers
pub record HasGoodIndex (index_cells : CellsOf) (l : Layout) (index_bytes : List ℕ) (len : ℕ) : Type 0 where
  pub numbers : List ℕ
  pub enough : l.index_size ≤ length index_bytes
  pub told : numbers_in_index index_cells l.location l.index_size index_bytes ≡ Some numbers
  pub entries : HasGoodEntries l numbers len

-- it holds of each object of this length whose index has these numbers, and of each of its layouts
abbrev pub OfEachNumbered : (shape sub : List ℕ) → ShardingIndexLocation → (index : Meaning) → List ℕ → ℕ → (Layout → List ℕ → Type 0)
    → Type 0
OfEachNumbered shape sub location index numbers len Holds =
    OfEachLayout shape sub location index (λ l. (object : List ℕ) → length object ≡ len
    → numbers_in_index index.cells l.location l.index_size object ≡ Some numbers → Holds l object)

-- it holds of each object of this length that has the index which these bytes begin or end with, and of each of its layouts
abbrev pub OfEachObject : (shape sub : List ℕ) → ShardingIndexLocation → (index : Meaning) → List ℕ → ℕ → (Layout → List ℕ → Type 0)
    → Type 0
OfEachObject shape sub location index index_bytes len Holds =
    OfEachLayout shape sub location index (λ l. (object : List ℕ) → length object ≡ len
    → index_part l.location l.index_size object ≡ index_part l.location l.index_size index_bytes → Holds l object)
