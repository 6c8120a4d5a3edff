-- A write over a subset of a shard as a plan: where the new slices go, and what the index and the length of the object are then.
use Rattle.std.specs.Prelude.{◌≡◌, ◌≢◌, ◌≤◌, ◌<◌, ◌^◌, ◌⊎◌, ◌+◌, ◌*◌, ◌/◌, ℕ, List, length, slice_index}
use Rattle.std.specs.List.{All}
use Rattle.parts_errors.specs.Words.{Refusals}
use Rattle.parts_errors.specs.Order.{◌or◌then◌, Each, done}
use Rattle.parts_errors.specs.declared.error.CodecError.TheVariants.{TooLarge, ShardTooShort, InvalidNumberOfElements, BadIndexEntry}
use Rattle.parts_row_major.specs.Numbering.{count_of}
use Rattle.parts_row_major.specs.Subsets.{Subset}
use Rattle.parts_subsets.specs.Grid.{grid_of}
use Rattle.parts_subsets.specs.Touched.{AreTouched}
use Rattle.sharding_format.specs.Index.{absent_number, slot_at, data_start}
use Rattle.sharding_format.specs.Laying.{offset_number, size_number}
use Rattle.sharding_format.specs.Compacting.{present_size}
use Rattle.sharding_format.specs.Packing.{moved_slot}
use Rattle.sharding_index.specs.DataPart.{IsInDataPart}
use Rattle.sharding_layout.specs.Offsets.{offset_after, length_after, index_after}
use Rattle.sharding_plans.specs.declared.packed.IndexPlace.{IndexPlace}
use Rattle.sharding_plans.specs.declared.write_plan.Outcome.{Outcome}
use Rattle.sharding_plans.specs.declared.write_plan.Outcome.TheVariants.{Erase, Anew, Append}
use Rattle.sharding_plans.specs.declared.write_plan.WritePlan.{WritePlan}
use Rattle.sharding_plans.specs.ReadPlans.{HasEntries, WithinRefusals}
use Rattle.sharding_plans.specs.PackedShards.{slots_of_sizes}

-- every number is the absent one
abbrev pub AreAbsent : List ℕ → Type 0
AreAbsent numbers = All (λ n. n ≡ absent_number) numbers

-- number i of an index is of an entry that is none of the touched ones
abbrev pub IsOther : List ℕ → ℕ → Type 0
IsOther touched i = (j : ℕ) → j < length touched → slice_index touched j ≢ i / 2

-- without the touched subchunks none is stored
abbrev pub AreOthersAbsent : (touched numbers : List ℕ) → Type 0
AreOthersAbsent touched numbers = (i : ℕ) → i < length numbers → IsOther touched i → slice_index numbers i ≡ absent_number

-- how many bytes the new slices have
abbrev pub total_of : List ℕ → ℕ
total_of sizes = present_size (slots_of_sizes sizes) (length sizes)

-- the entries of the first n touched subchunks are new: their slices follow one another from a place on; the other entries stay
pub record HasNewEntries (touched sizes : List ℕ) (write_offset : ℕ) (old new : List ℕ) (n : ℕ) : Type 0 where
  pub counted : length new ≡ length old
  pub offsets : (j : ℕ) → j < n → slice_index new (2 * slice_index touched j)
      ≡ offset_number write_offset (moved_slot (slots_of_sizes sizes j) (present_size (slots_of_sizes sizes) j))
  pub sizes_are : (j : ℕ) → j < n → slice_index new (2 * slice_index touched j + 1) ≡ size_number (slots_of_sizes sizes j)
  pub others : (i : ℕ) → IsOther touched i → slice_index new i ≡ slice_index old i

-- the entries of the first n touched subchunks are absent; the other entries stay
pub record AreCleared (touched old new : List ℕ) (n : ℕ) : Type 0 where
  pub counted : length new ≡ length old
  pub absent : (i j : ℕ) → j < n → slice_index touched j ≡ i / 2 → slice_index new i ≡ absent_number
  pub others : (i : ℕ) → ((j : ℕ) → j < n → slice_index touched j ≢ i / 2) → slice_index new i ≡ slice_index old i

-- the shard goes: no subchunk is stored any more
pub record Erases (touched numbers sizes : List ℕ) (plan : WritePlan) : Type 0 where
  pub others : AreOthersAbsent touched numbers
  pub none : AreAbsent sizes
  pub len : plan.len ≡ 0

-- it starts anew: the new slices are the only ones, from the start of the data part on
pub record StartsAnew (place : IndexPlace) (touched numbers sizes : List ℕ) (plan : WritePlan) : Type 0 where
  pub others : AreOthersAbsent touched numbers
  pub some : ¬ (AreAbsent sizes)
  pub write_offset : plan.write_offset ≡ data_start place.location place.size
  pub index_offset : plan.index_offset ≡ index_after place.location plan.write_offset (total_of sizes)
  pub len : plan.len ≡ place.size + total_of sizes

-- the new slices go behind the old ones
pub record Appends (place : IndexPlace) (len : ℕ) (touched numbers sizes : List ℕ) (plan : WritePlan) : Type 0 where
  pub others : ¬ (AreOthersAbsent touched numbers)
  pub write_offset : plan.write_offset ≡ offset_after place.location place.size len numbers (length numbers / 2)
  pub index_offset : plan.index_offset ≡ index_after place.location plan.write_offset (total_of sizes)
  pub long : plan.len ≡ length_after place.location len plan.write_offset (total_of sizes)

abbrev pub IsOutcome : Outcome → IndexPlace → (len : ℕ) → (touched numbers sizes : List ℕ) → WritePlan → Type 0
IsOutcome Erase place len touched numbers sizes plan = Erases touched numbers sizes plan
IsOutcome Anew place len touched numbers sizes plan = StartsAnew place touched numbers sizes plan
IsOutcome Append place len touched numbers sizes plan = Appends place len touched numbers sizes plan

-- a plan of a write of slices of these sizes for the touched subchunks, of which those that became all fill have the absent number
pub record IsWritePlan (place : IndexPlace) (len : ℕ) (numbers touched sizes : List ℕ) (plan : WritePlan) : Type 0 where
  pub entries : HasNewEntries touched sizes plan.write_offset numbers plan.numbers.items (length touched)
  pub outcome : IsOutcome plan.outcome place len touched numbers sizes plan
  pub small : plan.len + 1 < 2 ^ 64

-- the same of the subchunks that a subset touches, ascending
pub record IsWritePlanOf (shape sub : List ℕ) (place : IndexPlace) (len : ℕ) (numbers : List ℕ) (subset : Subset) (sizes : List ℕ)
    (plan : WritePlan) : Type 0 where
  pub touched : List ℕ
  pub are_touched : AreTouched shape sub subset touched
  pub counted : length sizes ≡ length touched
  pub planned : IsWritePlan place len numbers touched sizes plan

-- an object has room for its index; where there is none, no subchunk is stored
abbrev pub HasRoom : IndexPlace → ℕ → List ℕ → Type 0
HasRoom place len numbers = (place.size ≤ len) ⊎ ((len ≡ 0) × AreAbsent numbers)

-- a number can say how long the object is then
abbrev pub HasLength : IndexPlace → (len : ℕ) → (touched numbers : List ℕ) → (total : ℕ) → Type 0
HasLength place len touched numbers total =
    (AreOthersAbsent touched numbers × (place.size + total + 1 < 2 ^ 64))
    ⊎ ((¬ (AreOthersAbsent touched numbers))
    × (length_after place.location len (offset_after place.location place.size len numbers (length numbers / 2)) total + 1 < 2 ^ 64))

-- the tests of the sizes, and of the length
abbrev pub SizeRefusals : IndexPlace → ℕ → (numbers touched sizes : List ℕ) → Refusals
SizeRefusals place len numbers touched sizes =
    length sizes ≡ length touched or InvalidNumberOfElements then
    HasLength place len touched numbers (total_of sizes) or TooLarge then
    done

-- the tests of an object's index: those of opening a shard for writing
abbrev pub OpenRefusals : (shape sub : List ℕ) → IndexPlace → ℕ → List ℕ → Refusals → Refusals
OpenRefusals shape sub place len numbers later =
    HasEntries shape sub numbers or InvalidNumberOfElements then
    HasRoom place len numbers or ShardTooShort then
    Each (count_of (grid_of shape sub)) (λ k. IsInDataPart place.location place.size len (slot_at len numbers k)) (λ k. BadIndexEntry k)
    later

-- the tests of a plan of a write
abbrev pub WriteRefusals : (shape sub : List ℕ) → IndexPlace → ℕ → (numbers : List ℕ) → Subset → (sizes : List ℕ) → Refusals
WriteRefusals shape sub place len numbers subset sizes =
    OpenRefusals shape sub place len numbers (
    WithinRefusals shape subset (λ e.
    (touched : List ℕ) × AreTouched shape sub subset touched × SizeRefusals place len numbers touched sizes e))
