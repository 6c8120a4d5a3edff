-- A subset that lies in a shape has as many axes, so tests that it has passed leave the later ones.
use Rattle.std.proofs.Common.{◌≡◌, ◌≢◌, ◌<◌, ◌≤◌, ◌+◌, ◌*◌, ◌^◌, ℕ, List, Result, Ok, Err, IfErr, IsErrAnd, length, inl, inr, refl, sym, subst, ◌∙◌}
use Rattle.std.proofs.lemmas.List.Elements.{length_all_zip}
use Rattle.parts_errors.specs.Words.{Refusals}
use Rattle.parts_errors.specs.Order.{◌or◌then◌, done}
use Rattle.parts_errors.specs.declared.error.CodecError.{CodecError}
use Rattle.parts_errors.specs.declared.error.CodecError.TheVariants.{InvalidNumberOfElements, WrongElementKind, Damaged}
use Rattle.parts_row_major.specs.Numbering.{count_of, zip_with}
use Rattle.parts_row_major.specs.Subsets.{Subset, IsServed, IsSubset, LiesIn}
use Rattle.parts_row_major.proofs.SubsetLaws.{length-zip_with}
use Rattle.parts_subsets.specs.SubsetRefusals.{SubsetRefusals}
use Rattle.sharding_plans.specs.ReadPlans.{IsWithin}
use Rattle.sharding_plans.specs.Puts.{FillRefusals, PutRefusals}

pub lies_axes : (subset : Subset) (shape : List ℕ) → IsSubset subset.start subset.shape → LiesIn subset shape → length subset.start ≡ length shape
lies_axes subset shape well lies =
    let same = length_all_zip (λ first len. first + len < 2 ^ 64) subset.start subset.shape well in
    sym (length-zip_with ◌+◌ subset.start subset.shape same) ∙ length_all_zip ◌≤◌ (zip_with ◌+◌ subset.start subset.shape) shape lies

pub is_within : (subset : Subset) (shape : List ℕ) → IsSubset subset.start subset.shape → IsServed subset shape → IsWithin shape subset
is_within subset shape well served = record { same_axes = lies_axes subset shape well served.0; inside = served.0 }

-- what is refused after a subset that is served
served_then : (subset : Subset) (shape : List ℕ) (later : Refusals) (e : CodecError) → IsSubset subset.start subset.shape → IsServed subset shape
    → later e → SubsetRefusals subset shape later e
served_then subset shape later e well served h = inr (lies_axes subset shape well served.0, inr (served.0, inr (served.1, h)))

-- what the tests of a subset refuse, later tests leave
tested_first : (subset : Subset) (shape : List ℕ) (later : Refusals) (e : CodecError) → SubsetRefusals subset shape done e → SubsetRefusals subset shape later e
tested_first subset shape later e h =
    elim h [
      | inl axes ↦ inl axes
      | inr after_axes ↦ elim after_axes.1 [
        | inl outside ↦ inr (after_axes.0, inl outside)
        | inr after_subset ↦ elim after_subset.1 [ inl many ↦ inr (after_axes.0, inr (after_subset.0, inl many)) | inr rest ↦ absurd rest.1 ]
      ]
    ]

-- a refusal that `?` passes on
pub passed_on : {T : Type 0} (r : Result T CodecError) (e : CodecError) (P : Refusals) → IsErrAnd r (λ x. x ≡ e) → P e → IfErr r P
passed_on (Ok x) e P is h = tt
passed_on (Err x) e P is h = subst P (sym is) h

-- the tests after those of subsets
abbrev fill_rest : ℕ → List ℕ → ℕ → Refusals
fill_rest size shape answer = 0 < size or WrongElementKind then answer ≡ count_of shape * size or InvalidNumberOfElements then done

abbrev put_rest : ℕ → Subset → List ℕ → Subset → List ℕ → ℕ → ℕ → Refusals
put_rest size from sub into shape decoded answer =
    from.shape ≡ into.shape or InvalidNumberOfElements then
    0 < size or WrongElementKind then
    decoded ≡ count_of sub * size or Damaged then
    answer ≡ count_of shape * size or InvalidNumberOfElements then
    done

module _ (size : ℕ) (into : Subset) (shape : List ℕ) (answer : ℕ) where
  fill_later : (e : CodecError) → IsSubset into.start into.shape → IsServed into shape → fill_rest size shape answer e → FillRefusals size into shape answer e
  fill_later e well served h = served_then into shape (fill_rest size shape answer) e well served h

  pub fill_no_bytes : IsSubset into.start into.shape → IsServed into shape → ¬ (0 < size) → FillRefusals size into shape answer WrongElementKind
  fill_no_bytes well served none = fill_later WrongElementKind well served (inl (none, refl))

  pub fill_not_whole : IsSubset into.start into.shape → IsServed into shape → 0 < size → ¬ (answer ≡ count_of shape * size)
      → FillRefusals size into shape answer InvalidNumberOfElements
  fill_not_whole well served some other = fill_later InvalidNumberOfElements well served (inr (some, inl (other, refl)))

  module _ (from : Subset) (sub : List ℕ) (decoded : ℕ) (from_well : IsSubset from.start from.shape) (from_served : IsServed from sub) where
    pub put_outside : (e : CodecError) → SubsetRefusals into shape done e → PutRefusals size from sub into shape decoded answer e
    put_outside e h =
        served_then from sub (SubsetRefusals into shape (put_rest size from sub into shape decoded answer)) e from_well from_served
        (tested_first into shape (put_rest size from sub into shape decoded answer) e h)

    module _ (well : IsSubset into.start into.shape) (served : IsServed into shape) where
      put_later : (e : CodecError) → put_rest size from sub into shape decoded answer e → PutRefusals size from sub into shape decoded answer e
      put_later e h =
          served_then from sub (SubsetRefusals into shape (put_rest size from sub into shape decoded answer)) e from_well from_served
          (served_then into shape (put_rest size from sub into shape decoded answer) e well served h)

      pub put_shapes : from.shape ≢ into.shape → PutRefusals size from sub into shape decoded answer InvalidNumberOfElements
      put_shapes other = put_later InvalidNumberOfElements (inl (other, refl))

      pub put_no_bytes : from.shape ≡ into.shape → ¬ (0 < size) → PutRefusals size from sub into shape decoded answer WrongElementKind
      put_no_bytes same none = put_later WrongElementKind (inr (same, inl (none, refl)))

      pub put_damaged : from.shape ≡ into.shape → 0 < size → ¬ (decoded ≡ count_of sub * size) → PutRefusals size from sub into shape decoded answer Damaged
      put_damaged same some other = put_later Damaged (inr (same, inr (some, inl (other, refl))))

      pub put_not_whole : from.shape ≡ into.shape → 0 < size → decoded ≡ count_of sub * size → ¬ (answer ≡ count_of shape * size)
          → PutRefusals size from sub into shape decoded answer InvalidNumberOfElements
      put_not_whole same some whole other = put_later InvalidNumberOfElements (inr (same, inr (some, inr (whole, inl (other, refl)))))
