-- Shapes rounded up to whole chunks.
use Rattle.std.proofs.Common.{◌≡◌, ℕ, zero, suc, ◌+◌, ◌-◌, ◌/◌, ◌%◌, ◌<◌, ◌≤◌, ◌^◌, List, [], ◌∷◌, ◌++◌, length, map, take, get_or, ap, ◌∙◌, inl, inr, sym, arith}
use Rattle.std.proofs.lemmas.Nat.{mod-mul-add}
use Rattle.std.proofs.Math.Nat.{div-add-mod, mul_comm}
use Rattle.std.proofs.lemmas.List.{take_more, map-append}
use Rattle.std.proofs.lemmas.List.Elements.{All-push}
use Rattle.std.specs.List.{All, AllZip}
use Rattle.parts_errors.specs.Order.{RefusedBy}
use Rattle.parts_errors.specs.declared.error.CodecError.{CodecError}
use Rattle.parts_row_major.specs.Numbering.{AllPositive, zip_with}
use Rattle.parts_row_major.specs.Subsets.{Subset, LiesIn}
use Rattle.parts_row_major.proofs.SubsetLaws.{length-zip_with}
use Rattle.parts_subsets.specs.Grid.{Divides}
use Rattle.sharding_plans.specs.declared.read_plan.ReadPart.{ReadPart}
use Rattle.sharding_plans.specs.ReadPlans.{CutRefusals}
use Rattle.sharding_plans.specs.Chunks.{rounded_up, whole_chunks, ChunkRefusals, IsPartOfChunk}

rounded_positive : (elements part : ℕ) → 0 < part → 0 < rounded_up elements part
rounded_positive elements part some = omega (arith, some)

rounded_divides : (elements part : ℕ) → 0 < part → rounded_up elements part % part ≡ 0
rounded_divides elements part some = ap (λ t. t % part) (omega arith) ∙ mod-mul-add ((elements - 1) / part + 1) part 0 some

pub rounded_fits : (elements part : ℕ) → 0 < part → elements ≤ rounded_up elements part
rounded_fits elements zero some = absurd (omega (arith, some))
rounded_fits elements (suc d) some = omega (arith, div-add-mod (elements - 1) (suc d), mul_comm ((elements - 1) / suc d) (suc d))

pub whole_positive : (shape chunk : List ℕ) → AllPositive chunk → AllPositive (whole_chunks shape chunk)
whole_positive [] chunk some k d below = absurd (omega (arith, below))
whole_positive (n ∷ shape) [] some k d below = absurd (omega (arith, below))
whole_positive (n ∷ shape) (p ∷ chunk) some zero d below = rounded_positive n p (some 0 d (omega arith))
whole_positive (n ∷ shape) (p ∷ chunk) some (suc k) d below =
    whole_positive shape chunk (λ j e under. some (suc j) e (omega (arith, under))) k d (omega (arith, below))

pub whole_divided : (shape chunk : List ℕ) → length shape ≡ length chunk → AllPositive chunk → Divides chunk (whole_chunks shape chunk)
whole_divided [] [] same some = tt
whole_divided [] (p ∷ chunk) same some = absurd (omega (arith, same))
whole_divided (n ∷ shape) [] same some = absurd (omega (arith, same))
whole_divided (n ∷ shape) (p ∷ chunk) same some =
    (rounded_divides n p (some 0 0 (omega arith)), whole_divided shape chunk (omega (arith, same)) (λ j e under. some (suc j) e (omega (arith, under))))

-- ends within a shape are ends within it rounded up
pub ends_within_whole : (ends shape chunk : List ℕ) → length shape ≡ length chunk → AllPositive chunk → AllZip ◌≤◌ ends shape → AllZip ◌≤◌ ends (whole_chunks shape chunk)
ends_within_whole [] [] [] same some within = tt
ends_within_whole [] [] (p ∷ chunk) same some within = absurd (omega (arith, same))
ends_within_whole [] (n ∷ shape) chunk same some within = elim within [ ]
ends_within_whole (e ∷ ends) [] chunk same some within = elim within [ ]
ends_within_whole (e ∷ ends) (n ∷ shape) [] same some within = absurd (omega (arith, same))
ends_within_whole (e ∷ ends) (n ∷ shape) (p ∷ chunk) same some within =
    (omega (arith, within.0, rounded_fits n p (some 0 0 (omega arith))), ends_within_whole ends shape chunk (omega (arith, same)) (λ j e under. some (suc j) e (omega (arith, under))) within.1)

pub lies_in_whole : (subset : Subset) (shape chunk whole : List ℕ) → whole ≡ whole_chunks shape chunk → length shape ≡ length chunk → AllPositive chunk → LiesIn subset shape → LiesIn subset whole
lies_in_whole subset shape chunk whole rounded same some lies = rw rounded (ends_within_whole (zip_with ◌+◌ subset.start subset.shape) shape chunk same some lies)

-- a shape that was rounded up is refused only for its counts
pub chunks_refused : (shape chunk : List ℕ) (e : CodecError) → length shape ≡ length chunk → AllPositive chunk → All (λ axis. axis < 2 ^ 64) (whole_chunks shape chunk)
    → RefusedBy (CutRefusals (whole_chunks shape chunk) chunk) e → RefusedBy (ChunkRefusals shape chunk) e
chunks_refused shape chunk e same some fit h = elim h [
  | inl memory ↦ inl memory
  | inr axes ↦ elim axes [
    | inl other ↦ absurd (other.0 (length-zip_with rounded_up shape chunk same ∙ same))
    | inr cut ↦ elim cut.1 [
      | inl uneven ↦ absurd (uneven.0 (whole_divided shape chunk same some))
      | inr counts ↦ inr (inr (same, inr (fit, counts.1)))
    ]
  ]
]

-- the parts so far, and one more
pub record AreMetSoFar (whole chunk : List ℕ) (subset : Subset) (touched : List ℕ) (j : ℕ) (parts : List ReadPart) : Type 0 where
  pub numbered : map (λ part. part.number) parts ≡ take j touched
  pub each : All (IsPartOfChunk whole chunk subset) parts

pub met_more : (whole chunk : List ℕ) (subset : Subset) (touched : List ℕ) (j : ℕ) (parts more : List ReadPart) (part : ReadPart) → j < length touched
    → more ≡ parts ++ part ∷ [] → part.number ≡ get_or touched j 0 → IsPartOfChunk whole chunk subset part
    → AreMetSoFar whole chunk subset touched j parts → AreMetSoFar whole chunk subset touched (j + 1) more
met_more whole chunk subset touched j parts more part lt pushed number is known = record {
  numbered = rw (pushed, map-append (λ (it : ReadPart). it.number) parts (part ∷ []), known.numbered, number) (sym (take_more touched j 0 lt));
  each = rw pushed (All-push (IsPartOfChunk whole chunk subset) parts part known.each is);
}
