-- A read of listed elements of a shard as a plan: in which subchunks they lie, and where each stands in its own.
use Rattle.std.specs.Prelude.{◌≡◌, ◌<◌, ℕ, List, [], Some, map, length, slice_index, slice_index_or}
use Rattle.std.specs.List.{All}
use Rattle.parts_errors.specs.Words.{Bytes, CellsOf, Refusals}
use Rattle.parts_errors.specs.Order.{◌or◌then◌, done}
use Rattle.parts_errors.specs.declared.error.CodecError.TheVariants.{InvalidNumberOfElements}
use Rattle.parts_row_major.specs.Numbering.{count_of}
use Rattle.parts_subsets.specs.Selections.{Selection, SelectionRefusals}
use Rattle.sharding_format.specs.Index.{slot_at}
use Rattle.sharding_format.specs.Cells.{cell_in, indexed_cell}
use Rattle.sharding_format.specs.declared.slot.Slot.TheVariants.{Bad}
use Rattle.sharding_gather.specs.declared.grouping.Grouping.{Grouping}
use Rattle.sharding_gather.specs.steps.Grouping.{AreGrouped, lists_of, standing_at}
use Rattle.sharding_plans.specs.declared.listed.ListedPlan.{ListedPlan}
use Rattle.sharding_plans.specs.ReadPlans.{HasEntries}

-- the elements with some row-major numbers, by their subchunks, and what the index says of each of these
pub record IsListedPlan (shape sub : List ℕ) (len : ℕ) (index listed : List ℕ) (plan : ListedPlan) : Type 0 where
  pub grouped : AreGrouped shape sub listed plan.elements
  pub slots : plan.slots.items ≡ map (slot_at len index) plan.elements.subchunks.items

-- the tests of a plan of listed elements
abbrev pub ListRefusals : (shape sub index : List ℕ) → Selection → Refusals
ListRefusals shape sub index listed =
    SelectionRefusals shape listed (
    HasEntries shape sub index or InvalidNumberOfElements then
    done)

-- the position of a listed element in its subchunk
abbrev pub position_at : Grouping → ℕ → ℕ
position_at elements i = let at = standing_at elements i in slice_index (slice_index_or (lists_of elements) at.group []) at.rank

-- Whoever decodes the subchunks of a plan, in any order, has the elements that a read of the shard gives, each where the plan says.
pub record ListedLaw (shape sub : List ℕ) : Type 0 where
  pub read : (inner_cells : CellsOf) (fill object index listed : List ℕ) (plan : ListedPlan) (element : ℕ → ℕ → Bytes)
      → All (λ number. number < count_of shape) listed → IsListedPlan shape sub (length object) index listed plan
      → ((j p : ℕ) → j < length plan.elements.subchunks.items → p < count_of sub
      → cell_in inner_cells fill object (slice_index_or plan.slots.items j Bad) p ≡ Some (element j p))
      → (i : ℕ) → i < length listed
      → indexed_cell inner_cells shape sub fill object index (slice_index listed i)
      ≡ Some (element (standing_at plan.elements i).group (position_at plan.elements i))
