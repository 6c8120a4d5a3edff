-- The rows and the places of listed elements, one after the other.
use Rattle.std.proofs.Common.{◌≡◌, ◌+◌, ◌*◌, ◌/◌, ◌%◌, ◌++◌, ◌∙◌, ℕ, zero, suc, List, [], ◌∷◌, length, get_or, refl, sym, ap, arith}
use Rattle.std.specs.List.{flat_map, range_with_len}
use Rattle.std.proofs.lemmas.List.{flat_map_more, map-id, length-append, length-map}
use Rattle.std.proofs.lemmas.List.FromFn.{map-range_with_len_more, length-map-range_with_len}
use Rattle.parts_row_major.specs.Numbering.{number_of}
use Rattle.parts_row_major.specs.Pieces.{piece}
use Rattle.parts_subsets.specs.Selections.{points_from}
use Rattle.sharding_format.specs.Index.{slot_at}
use Rattle.sharding_format.specs.ReadRefusals.{numbers_of}
use Rattle.sharding_format.specs.declared.slot.Slot.TheVariants.{Absent}
use Rattle.sharding_plans.specs.declared.listed.ListedPlan.{ListedPlan}
use Rattle.sharding_plans.specs.ListedPlans.{IsListedPlan}
use Rattle.sharding_c.specs.Points.{place_at, places_of, point_row, point_rows}

-- the pieces of one number more
pub pieces_more : (f : ℕ → List ℕ) (k : ℕ) → flat_map f (range_with_len 0 (k + 1)) ≡ flat_map f (range_with_len 0 k) ++ f k
pieces_more f k =
    let range : range_with_len 0 (k + 1) ≡ range_with_len 0 k ++ k ∷ [] =
    sym (map-id (range_with_len 0 (k + 1))) ∙ map-range_with_len_more (λ (j : ℕ). j) 0 k k (omega arith) ∙ ap (λ xs. xs ++ k ∷ []) (map-id (range_with_len 0 k)) in
    ap (flat_map f) range ∙ sym (flat_map_more f [] (range_with_len 0 k) k)

-- pieces of one length
pub length-pieces : (f : ℕ → List ℕ) (each k : ℕ) → ((j : ℕ) → length (f j) ≡ each) → length (flat_map f (range_with_len 0 k)) ≡ each * k
length-pieces f each zero same = omega arith
length-pieces f each (suc k) same =
    let step : k + 1 ≡ suc k = omega arith in
    ap (λ n. length (flat_map f (range_with_len 0 n))) (sym step)
    ∙ (ap length (pieces_more f k) ∙ (length-append (flat_map f (range_with_len 0 k)) (f k) ∙ grind (arith, length-pieces f each k same, same k)))

-- what is planned of listed elements
module _ (shape sub : List ℕ) (len axes places : ℕ) (index points : List ℕ) (plan : ListedPlan)
    (is : IsListedPlan shape sub len index (numbers_of shape (points_from axes (places / 2) points).points) plan) (even : places % 2 ≡ 0) where
  pub slots_counted : length plan.slots.items ≡ length plan.elements.subchunks.items
  slots_counted = ap length is.slots ∙ length-map plan.elements.subchunks.items (slot_at len index)

  pub rows_long : (n : ℕ) → length (point_rows plan.elements.subchunks.items plan.slots.items n) ≡ 3 * n
  rows_long n = length-pieces (λ j. point_row (get_or plan.elements.subchunks.items j 0) (get_or plan.slots.items j Absent)) 3 n (λ j. refl)

  pub standings_counted : length plan.elements.standings.items ≡ places / 2
  standings_counted =
      is.grouped.counted
      ∙ (length-map (points_from axes (places / 2) points).points (λ point. number_of point shape) ∙ length-map-range_with_len (piece axes points) 0 (places / 2))

  pub places_long : length (places_of plan.elements (length plan.elements.standings.items)) ≡ places
  places_long = length-pieces (place_at plan.elements) 2 (length plan.elements.standings.items) (λ i. refl) ∙ omega (arith, standings_counted, even)
