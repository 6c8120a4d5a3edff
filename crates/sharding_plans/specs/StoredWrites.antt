-- A write that was stored as its plan says.
use Rattle.std.specs.Prelude.{◌≡◌, ◌≤◌, ◌<◌, ◌^◌, ◌⊎◌, ◌+◌, ℕ, List, Option, Some, None, map, length, slice_index}
use Rattle.std.specs.List.{All}
use Rattle.parts_errors.specs.Words.{Elements, Written}
use Rattle.parts_row_major.specs.Numbering.{count_of}
use Rattle.parts_row_major.specs.Subsets.{Subset}
use Rattle.parts_subsets.specs.Grid.{Divides, grid_of}
use Rattle.parts_subsets.specs.Touched.{Touches}
use Rattle.parts_arrays.specs.ArraySpec.{ArraySpec}
use Rattle.storage_handles.specs.Writes.{bytes_of}
use Rattle.codec_traits.specs.Meanings.{Meaning}
use Rattle.sharding_format.specs.Index.{slot_at, slice_at, element_of_number}
use Rattle.sharding_format.specs.Cells.{Layout}
use Rattle.sharding_format.specs.Encoding.{IsAllFill, IsStoredAt}
use Rattle.sharding_index.specs.DataPart.{IsInDataPart}
use Rattle.sharding_write.specs.Writing.{AreNewCells, IsWriteOf, cells_in}
use Rattle.sharding_plans.specs.declared.write_plan.Outcome.{Outcome}
use Rattle.sharding_plans.specs.declared.write_plan.Outcome.TheVariants.{Erase, Anew, Append}
use Rattle.sharding_plans.specs.declared.write_plan.WritePlan.{WritePlan}
use Rattle.sharding_plans.specs.PackedShards.{place_of}
use Rattle.sharding_plans.specs.ReadPlans.{HasEntries, IsWithin}
use Rattle.sharding_plans.specs.WritePlans.{HasRoom, IsWritePlanOf, total_of}

-- what a plan of a write has passed: the shard is cut evenly, the subset lies in it, and its index, whose numbers have 64 bits, is one to
-- write to
pub record CanBeWritten (l : Layout) (len : ℕ) (numbers : List ℕ) (subset : Subset) : Type 0 where
  pub divides : Divides l.sub l.shape
  pub within : IsWithin l.shape subset
  pub below : All (λ n. n < 2 ^ 64) numbers
  pub entries : HasEntries l.shape l.sub numbers
  pub room : HasRoom (place_of l) len numbers
  pub inside : (k : ℕ) → k < count_of (grid_of l.shape l.sub) → IsInDataPart l.location l.index_size len (slot_at len numbers k)

-- the elements of each touched subchunk are its new cells
abbrev pub AreAllNew : (inner : Meaning) → Layout → ArraySpec → Subset → (update : Elements) → (old numbers : List ℕ) → (ℕ → Elements)
    → Type 0
AreAllNew inner l spec subset update old numbers elements =
    (k : ℕ) → Touches l.shape l.sub subset k
    → AreNewCells l.shape spec subset update (cells_in inner.cells l.fill old numbers k) k (elements k)

-- an object has the planned length; the index stands at its place; and an encoding of each touched subchunk stands where the new index
-- says, or the subchunk is all fill and stands nowhere
pub record IsStoredBy (inner_written index_written : Written) (l : Layout) (subset : Subset) (elements : ℕ → Elements) (plan : WritePlan)
    (new : List ℕ) : Type 0 where
  pub long : length new ≡ plan.len
  pub index : index_written (map element_of_number plan.numbers.items) (slice_at plan.index_offset l.index_size new)
  pub stored : (k : ℕ) → Touches l.shape l.sub subset k
      → IsStoredAt inner_written l.fill (λ offset size. Unit {0}) (elements k) new (slot_at plan.len plan.numbers.items k)

-- a place is none of those from an offset on, of this count
abbrev pub IsOutside : (offset size i : ℕ) → Type 0
IsOutside offset size i = (i < offset) ⊎ (offset + size ≤ i)

-- the bytes that are none of the new slices and of the index are those of the old object
abbrev pub AreOthersKept : (index_size : ℕ) → (sizes : List ℕ) → WritePlan → (old new : List ℕ) → Type 0
AreOthersKept index_size sizes plan old new =
    (i : ℕ) → i < length old → IsOutside plan.write_offset (total_of sizes) i → IsOutside plan.index_offset index_size i
    → slice_index new i ≡ slice_index old i

-- a plan was carried out: the object is gone, and each touched subchunk is all fill; or the object is just what was stored; or it is the
-- old one, with that written into it
abbrev pub IsCarriedOut : Outcome → (inner_written index_written : Written) → Layout → Subset → (sizes : List ℕ) → (ℕ → Elements)
    → WritePlan → (old : List ℕ) → (new : Option (List ℕ)) → Type 0
IsCarriedOut Erase inner_written index_written l subset sizes elements plan old None =
    (k : ℕ) → Touches l.shape l.sub subset k → IsAllFill l.fill (elements k)
IsCarriedOut Anew inner_written index_written l subset sizes elements plan old (Some new) =
    IsStoredBy inner_written index_written l subset elements plan new
IsCarriedOut Append inner_written index_written l subset sizes elements plan old (Some new) =
    IsStoredBy inner_written index_written l subset elements plan new × AreOthersKept l.index_size sizes plan old new
IsCarriedOut _ inner_written index_written l subset sizes elements plan old new = ⊥

-- Whoever carries out a plan of a write has made a write, by the definition of `partial_encode`: whichever encodings of the new cells the
-- inner codec allows, and in whatever order the pieces were stored.
pub record WriteLaw (inner index : Meaning) : Type 0 where
  pub written : (l : Layout) (spec : ArraySpec) (subset : Subset) (update : Elements) (old new : Option (List ℕ)) (numbers sizes : List ℕ)
      (plan : WritePlan) (elements : ℕ → Elements)
      → CanBeWritten l (length (bytes_of old)) numbers subset
      → IsWritePlanOf l.shape l.sub (place_of l) (length (bytes_of old)) numbers subset sizes plan
      → AreAllNew inner l spec subset update (bytes_of old) numbers elements
      → IsCarriedOut plan.outcome inner.written index.written l subset sizes elements plan (bytes_of old) new
      → IsWriteOf inner index l spec subset update old numbers new plan.numbers.items
