-- Elements that are listed, each read where its plan says.
use Rattle.std.proofs.Common.{◌≡◌, ◌<◌, ◌∙◌, ℕ, List, Some, length, get_or, sym, ap}
use Rattle.std.proofs.lemmas.List.{get_or-map}
use Rattle.std.proofs.lemmas.List.Elements.{All-get_or}
use Rattle.parts_row_major.specs.Numbering.{count_of}
use Rattle.parts_subsets.specs.Grid.{Divides, subchunk_number, position_number}
use Rattle.parts_subsets.proofs.GridLaws.{position_number-below}
use Rattle.sharding_format.specs.Index.{slot_at}
use Rattle.sharding_format.specs.Cells.{cell_in}
use Rattle.sharding_format.specs.declared.slot.Slot.{Slot}
use Rattle.sharding_format.specs.declared.slot.Slot.TheVariants.{Bad}
use Rattle.sharding_gather.specs.steps.Grouping.{standing_at}
use Rattle.sharding_plans.specs.ListedPlans.{ListedLaw}

pub the_listed_law : (shape sub : List ℕ) → Divides sub shape → ListedLaw shape sub
the_listed_law shape sub divides = record {
  read = λ inner_cells fill object index listed plan element inside is decoded i lt.
      let number : ℕ = get_or listed i 0 in
      let seated = is.grouped.each i lt in
      let group : ℕ = (standing_at plan.elements i).group in
      let below : position_number shape sub number < count_of sub =
      position_number-below shape sub divides number (All-get_or (λ (n : ℕ). n < count_of shape) listed i 0 lt inside) in
      let slot : get_or plan.slots.items group Bad ≡ slot_at (length object) index (subchunk_number shape sub number) =
      ap (λ (slots : List Slot). get_or slots group Bad) is.slots
      ∙ (get_or-map (slot_at (length object) index) plan.elements.subchunks.items group 0 Bad seated.group_below ∙ ap (slot_at (length object) index) seated.subchunk) in
      ap (λ (s : Slot). cell_in inner_cells fill object s (position_number shape sub number)) (sym slot)
      ∙ (decoded group (position_number shape sub number) seated.group_below below ∙ ap (λ (p : ℕ). Some (element group p)) (sym seated.position));
}
