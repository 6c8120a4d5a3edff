-- The parts of a plan, one after the other.
use Rattle.std.proofs.Common.{◌≡◌, ℕ, ◌+◌, ◌<◌, ◌≤◌, List, [], ◌∷◌, ◌++◌, Some, None, map, take, length, get_or, refl, sym, arith}
use Rattle.std.proofs.lemmas.List.{take_more, map-append, length_push}
use Rattle.std.proofs.lemmas.List.Elements.{All-nil, All-push}
use Rattle.std.specs.List.{All}
use Rattle.parts_row_major.specs.Subsets.{Subset}
use Rattle.sharding_format.specs.Index.{slot_at}
use Rattle.sharding_format.specs.declared.slot.Slot.TheVariants.{Bad}
use Rattle.sharding_plans.specs.declared.read_plan.ReadPart.{ReadPart}
use Rattle.sharding_plans.specs.declared.read_plan.ReadPlan.{ReadPlan}
use Rattle.sharding_plans.specs.ReadPlans.{IsReadPart, IsPlanOf}

-- the parts of the first touched subchunks
pub record IsPlannedSoFar (shape sub : List ℕ) (len : ℕ) (numbers : List ℕ) (subset : Subset) (touched : List ℕ) (j : ℕ) (parts : List ReadPart) : Type 0 where
  pub counted : length parts ≡ j
  pub numbered : map (λ part. part.number) parts ≡ take j touched
  pub each : All (IsReadPart shape sub len numbers subset) parts

module _ (shape sub : List ℕ) (len : ℕ) (numbers : List ℕ) (subset : Subset) (touched : List ℕ) where
  pub planned_none : IsPlannedSoFar shape sub len numbers subset touched 0 []
  planned_none = record { counted = refl; numbered = refl; each = All-nil (IsReadPart shape sub len numbers subset) }

  pub planned_more : (j : ℕ) (parts more : List ReadPart) (part : ReadPart) → j < length touched → more ≡ parts ++ part ∷ []
      → part.number ≡ get_or touched j 0 → IsReadPart shape sub len numbers subset part
      → IsPlannedSoFar shape sub len numbers subset touched j parts → IsPlannedSoFar shape sub len numbers subset touched (j + 1) more
  planned_more j parts more part lt pushed number is known = record {
    counted = rw pushed (omega (arith, length_push parts part, known.counted));
    numbered = rw (pushed, map-append (λ (it : ReadPart). it.number) parts (part ∷ []), known.numbered, number) (sym (take_more touched j 0 lt));
    each = rw pushed (All-push (IsReadPart shape sub len numbers subset) parts part known.each is);
  }

  -- all touched subchunks have a part
  pub planned_whole : (plan : ReadPlan) (j : ℕ) → length touched ≤ j → j ≤ length touched → plan.bad ≡ None
      → IsPlannedSoFar shape sub len numbers subset touched j plan.parts.items → IsPlanOf shape sub len numbers subset touched plan
  planned_whole plan j low high none known =
      let whole : length plan.parts.items ≡ length touched = omega (arith, known.counted) in
      record {
        numbered = rw known.counted known.numbered;
        parts = known.each;
        ends = rw none whole;
      }

  -- the next one's entry is bad
  pub planned_to_bad : (plan : ReadPlan) (j k : ℕ) → j < length touched → k ≡ get_or touched j 0 → slot_at len numbers k ≡ Bad
      → plan.bad ≡ Some k → IsPlannedSoFar shape sub len numbers subset touched j plan.parts.items → IsPlanOf shape sub len numbers subset touched plan
  planned_to_bad plan j k lt here bad some known =
      record {
        numbered = rw known.counted known.numbered;
        parts = known.each;
        ends = rw (some, known.counted) (lt, sym here, bad);
      }
