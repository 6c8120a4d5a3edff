-- What the calls say that plan how an object is written: whole shards, compactions and writes.
use Rattle.std.specs.Prelude.{◌≡◌, ◌≤◌, ◌*◌, ◌++◌, ℕ, List, length, drop}
use Rattle.parts_errors.specs.Words.{Refusals}
use Rattle.parts_errors.specs.Order.{◌or◌then◌, RefusedBy}
use Rattle.parts_errors.specs.declared.error.CodecError.{CodecError}
use Rattle.sharding_plans.specs.declared.packed.PackedShard.{PackedShard}
use Rattle.sharding_plans.specs.declared.write_plan.Outcome.{Outcome}
use Rattle.sharding_plans.specs.declared.write_plan.Outcome.TheVariants.{Erase, Anew, Append}
use Rattle.sharding_plans.specs.declared.write_plan.WritePlan.{WritePlan}
use Rattle.sharding_plans.specs.PackedShards.{IsPackedShard, LayOutRefusals, CompactionRefusals}
use Rattle.sharding_plans.specs.WritePlans.{IsWritePlanOf, WriteRefusals}
use Rattle.sharding_format.specs.declared.slot.Slot.{Slot}
use Rattle.sharding_c.specs.declared.layout.Layout.{Layout}
use Rattle.sharding_c.specs.declared.layout.Stored.{Stored}
use Rattle.sharding_c.specs.declared.layout.Subset.{Subset}
use Rattle.sharding_c.specs.declared.status.Refusal.{Refusal}
use Rattle.sharding_c.specs.declared.status.Refusal.TheVariants.{Codec, RoomTooSmall}
use Rattle.sharding_c.specs.Statuses.{◌or_refused◌then◌, ◌or_refused_by◌then◌}
use Rattle.sharding_c.specs.Layouts.{StartRefusals, index_place, subchunks_of}
use Rattle.sharding_c.specs.Exports.{LaidTests, told_subset}

-- numbers stand in front of a room, and what was behind them there still does
abbrev pub AreInFront : (numbers old new : List ℕ) → Type 0
AreInFront numbers old new = new ≡ numbers ++ drop (length numbers) old

-- the index of a packed shard stands in front of a room
pub record IsPackedWritten (layout : Layout) (slots : ℕ → Slot) (old new : List ℕ) (len : ℕ) : Type 0 where
  pub shard : PackedShard
  pub packed : IsPackedShard (index_place layout) (subchunks_of layout) slots shard
  pub written : AreInFront shard.numbers.items old new
  pub long : len ≡ shard.len

-- how an object is written: not at all; it is erased; it is replaced; or what is new is written into it
abbrev pub kind_of : Outcome → ℕ
kind_of Erase = 1
kind_of Anew = 2
kind_of Append = 3

-- the index of a planned write stands in front of a room
pub record IsWriteWritten (layout : Layout) (stored : Stored) (subset : Subset) (sizes old new : List ℕ) (len kind : ℕ) : Type 0 where
  pub plan : WritePlan
  pub planned : IsWritePlanOf layout.shape.now layout.subchunk_shape.now (index_place layout) stored.object_size stored.numbers.now
      (told_subset subset) sizes plan
  pub written : AreInFront plan.numbers.items old new
  pub long : len ≡ plan.len
  pub kind_is : kind ≡ kind_of plan.outcome

-- the tests of a layout and of room for an index, and those of the codec behind them
abbrev pub IndexRoomTests : Layout → ℕ → Refusals → Refusal → Type 0
IndexRoomTests layout room later =
    LaidTests layout (
    2 * subchunks_of layout ≤ room or_refused RoomTooSmall (2 * subchunks_of layout) then
    (λ refusal. (error : CodecError) × (refusal ≡ Codec error) × RefusedBy later error))

abbrev pub LayOutTests : Layout → (sizes : List ℕ) → (room : ℕ) → Refusal → Type 0
LayOutTests layout sizes room =
    IndexRoomTests layout room (LayOutRefusals layout.shape.now layout.subchunk_shape.now (index_place layout) sizes)

abbrev pub CompactionTests : Layout → Stored → (room : ℕ) → Refusal → Type 0
CompactionTests layout stored room =
    IndexRoomTests layout room
    (CompactionRefusals layout.shape.now layout.subchunk_shape.now (index_place layout) stored.object_size stored.numbers.now)

-- the tests of a write: those of the subset's start and shape come before those of the codec
abbrev pub WriteTests : Layout → Stored → Subset → (sizes : List ℕ) → (room : ℕ) → Refusal → Type 0
WriteTests layout stored subset sizes room =
    IndexRoomTests layout room (
    StartRefusals subset.start.now subset.shape.now (
    WriteRefusals layout.shape.now layout.subchunk_shape.now (index_place layout) stored.object_size stored.numbers.now
    (told_subset subset) sizes))
